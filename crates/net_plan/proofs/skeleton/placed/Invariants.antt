-- What was made stands before what is left.
use Rattle.std.{proofs.Common.{◌≡◌, ◌++◌, map, length}, specs.Vec.Iter.{into_iter_items, into_iter_len}}
use Rattle.net_plan.{specs.NameIndexes.{find_in}, specs.Skeleton.{found_value, cut_value, placed_value}}
use Rattle.net_plan.proofs.skeleton.placed.Given as goal

abbrev pub invariant-parts : goal.invariant-parts
invariant-parts l = (map (λ p. found_value (find_in l.nodes) (cut_value p)) (into_iter_items l.initial.rest) ≡ map placed_value l.list.items ++ map (λ p. found_value (find_in l.nodes) (cut_value p)) (into_iter_items l.rest))
    × (into_iter_len l.rest ≡ length (into_iter_items l.rest))

abbrev pub decreases-parts : goal.decreases-parts
decreases-parts l = length (into_iter_items l.rest)
