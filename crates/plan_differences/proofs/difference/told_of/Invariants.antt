use Rattle.std.proofs.Common.{◌≡◌, take}
use Rattle.plan_differences.specs.Differences.{told_of}
use Rattle.plan_differences.proofs.difference.told_of.Given as goal

abbrev pub invariant-loop-fact : goal.invariant-loop-fact
invariant-loop-fact l = l.told.items ≡ told_of l.side (take l.fact-index l.facts) l.others
