use Rattle.plan_differences.specs.WayDifferences.{AreWaysBefore}
use Rattle.plan_differences.proofs.ways.other_ways.Given as goal

abbrev pub invariant-loop-from : goal.invariant-loop-from
invariant-loop-from l = AreWaysBefore l.before.0 l.after.0 l.from l.ways.items
