use Rattle.std.proofs.Common.{◌≡◌, map, take}
use Rattle.plan_differences.specs.declared.difference.Difference.TheVariants.{Changed}
use Rattle.plan_differences.proofs.difference.changes.Given as goal

abbrev pub invariant-loop-other : goal.invariant-loop-other
invariant-loop-other l = l.told.items ≡ map (Changed l.fact) (take l.other-index l.others)
