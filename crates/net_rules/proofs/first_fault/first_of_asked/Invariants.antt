use Rattle.std.proofs.Common.{ℕ, ◌<◌, Option}
use Rattle.net_rules.{specs.declared.rule.Rule.{Rule}, specs.Asked.{DemandsAsked}, specs.Faults.{order_of}}
use Rattle.net_rules.proofs.first_fault.first_of_asked.Given as goal

abbrev pub invariant-loop-rule : goal.invariant-loop-rule
invariant-loop-rule l =
    (rule : Rule) → order_of rule < l.rule-index → (n : ℕ) (entry eid : Option ℕ) → DemandsAsked l.asked l.plan l.certificate rule n entry eid
