use Rattle.std.{proofs.Common.{ℕ, Option, length, arith, inl, inr}, proofs.lemmas.Bool.{cases_lt}}
use borrow.Author.Count.{below_more}
use Rattle.net_rules.{specs.Rules.{PlanDemands}, proofs.Beyond.{plan_beyond}}
use Rattle.net_rules.proofs.plan_fault.first_of_plan_rule.Goals as goal

pub loop-node-preserved : goal.loop-node-preserved
loop-node-preserved c =
    below_more (λ k. (entry eid : Option ℕ) → PlanDemands c.args.plan.now c.args.rule k entry eid) c.loop-node.node c.loop-node.invariant
    (rw c.in_default.is at c.in_ok-spot.ensures)

pub returns : goal.returns
returns c = λ n entry eid.
    let plan = c.args.plan.now in
    elim (cases_lt n (length plan.nodes.items)) [
      | inl within ↦ c.loop-node.invariant n (omega arith) entry eid
      | inr past ↦ plan_beyond plan c.args.rule n entry eid past
    ]
