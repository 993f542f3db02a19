use Rattle.std.proofs.Common.{ℕ, ◌<◌}
use Rattle.plan_values.proofs.SameItems.{IsSameAt}
use Rattle.plan_values.proofs.same.are_same.Given as goal

abbrev pub invariant-loop-index : goal.invariant-loop-index
invariant-loop-index g l = (k : ℕ) → k < l.index → IsSameAt g.P.PlanPart.meaning l.parts l.others k
