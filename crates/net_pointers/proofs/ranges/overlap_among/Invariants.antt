-- What is left decides, and none before has such.
use Rattle.std.proofs.Common.{◌≡◌, drop}
use Rattle.net_plan.specs.Trees.{items_view}
use Rattle.net_pointers.{specs.Ascending.{entries_ascend}, proofs.Overlaps.{NoneAmong}}
use Rattle.net_pointers.proofs.ranges.overlap_among.Given as goal

abbrev pub invariant-loop-entry : goal.invariant-loop-entry
invariant-loop-entry l = (entries_ascend (items_view (drop l.entry l.entries)) ≡ entries_ascend (items_view l.entries)) × NoneAmong l.entries l.entry
