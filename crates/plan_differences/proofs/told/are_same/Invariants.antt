use Rattle.std.proofs.Common.{◌≡◌, map, take}
use Rattle.plan_differences.specs.Facts.{fact_value}
use Rattle.plan_differences.proofs.told.are_same.Given as goal

abbrev pub invariant-loop-index : goal.invariant-loop-index
invariant-loop-index l = map fact_value (take l.index l.facts) ≡ map fact_value (take l.index l.others)
