-- What is left decides. The end is that of the range before, and none before that one ends after the next one begins.
use Rattle.std.proofs.Common.{◌≡◌, ◌+◌, ℕ, drop, get_or}
use Rattle.net_plan.specs.Trees.{Tree, view, items_view}
use Rattle.net_pointers.{specs.Ascending.{ranges_ascend, end_in}, proofs.Overlaps.{NoneBefore}}
use Rattle.net_pointers.proofs.ranges.overlap_within.Given as goal

abbrev pub invariant-loop-index : goal.invariant-loop-index
invariant-loop-index l = (ranges_ascend l.end (items_view (drop l.index l.ranges)) ≡ ranges_ascend 0 (items_view l.ranges))
    × (l.index ≡ 0 → l.end ≡ 0) × ((i : ℕ) (d : Tree) → l.index ≡ i + 1 → l.end ≡ end_in (view (get_or l.ranges i d)))
    × NoneBefore l.ranges l.index
