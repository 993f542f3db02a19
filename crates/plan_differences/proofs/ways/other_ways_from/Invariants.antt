use Rattle.plan_differences.specs.WayDifferences.{AreWaysFrom}
use Rattle.plan_differences.proofs.ways.other_ways_from.Given as goal

abbrev pub invariant-loop-to : goal.invariant-loop-to
invariant-loop-to l = AreWaysFrom l.before.0 l.after.0 l.from l.to l.ways.items
