use Rattle.std.proofs.Common.{ℕ, ◌<◌, Option}
use Rattle.net_rules.specs.Rules.{Demands}
use Rattle.net_rules.proofs.first_fault.first_of_rule.Given as goal

abbrev pub invariant-loop-node : goal.invariant-loop-node
invariant-loop-node l = (k : ℕ) → k < l.node → (entry eid : Option ℕ) → Demands l.plan l.certificate l.rule k entry eid
