use Rattle.std.proofs.Common.{ℕ, Option, arith}
use Rattle.net_rules.{specs.declared.rule.Rule.{Rule}, specs.Asked.{DemandsAsked}, proofs.RuleOrder.{all_below, more_hold, first_by_rules}}
use Rattle.net_rules.proofs.first_fault.first_of_asked.Goals as goal

pub loop-rule-preserved : goal.loop-rule-preserved
loop-rule-preserved c =
    let P : Rule → Type 0 = λ rule. (n : ℕ) (entry eid : Option ℕ) → DemandsAsked c.args.asked c.args.plan.now c.args.certificate.now rule n entry eid in
    more_hold P c.loop-rule.rule-index _ c.loop-rule-test.true c.loop-rule.invariant (rw c.in_default.is at c.in_ok-fault.ensures)

pub returns-in-Some : goal.returns-in-Some
returns-in-Some c =
    first_by_rules (DemandsAsked c.args.asked c.args.plan.now c.args.certificate.now) c.loop-rule.rule-index _ c.in-Some.fault c.loop-rule-test.true c.loop-rule.invariant
    (rw c.in-Some.is at c.in_ok-fault.ensures)

pub returns : goal.returns
returns c = λ rule. c.loop-rule.invariant rule (let low = all_below rule in omega (arith, low))
