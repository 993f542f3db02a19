use Rattle.std.{proofs.Common.{ℕ, Option, length, arith, inl, inr}, proofs.lemmas.Bool.{cases_lt}}
use borrow.Author.Count.{below_more}
use Rattle.net_rules.{specs.Rules.{Demands}, proofs.Beyond.{beyond}, proofs.MoveSearches.{first_at_node}}
use Rattle.net_rules.proofs.first_fault.first_of_rule.Goals as goal

pub loop-node-preserved : goal.loop-node-preserved
loop-node-preserved c =
    let plan = c.args.plan.now in
    let cert = c.args.certificate.now in
    below_more (λ k. (entry eid : Option ℕ) → Demands plan cert c.args.rule k entry eid) c.loop-node.node c.loop-node.invariant
    (rw c.in_default.is at c.in_ok-spot.ensures)

pub returns-in-Some : goal.returns-in-Some
returns-in-Some c =
    first_at_node (Demands c.args.plan.now c.args.certificate.now) c.args.rule c.loop-node.node c.in-Some.spot c.loop-node.invariant (rw c.in-Some.is at c.in_ok-spot.ensures)

pub returns : goal.returns
returns c = λ n entry eid.
    let plan = c.args.plan.now in
    elim (cases_lt n (length plan.nodes.items)) [
      | inl within ↦ c.loop-node.invariant n (omega arith) entry eid
      | inr past ↦ beyond plan c.args.certificate.now c.args.rule n entry eid past
    ]
