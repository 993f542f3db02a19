use Rattle.std.proofs.Common.{ℕ, ◌<◌, Option}
use Rattle.net_rules.specs.Rules.{PlanDemands}
use Rattle.net_rules.proofs.plan_fault.first_of_plan_rule.Given as goal

abbrev pub invariant-loop-node : goal.invariant-loop-node
invariant-loop-node l = (k : ℕ) → k < l.node → (entry eid : Option ℕ) → PlanDemands l.plan l.rule k entry eid
