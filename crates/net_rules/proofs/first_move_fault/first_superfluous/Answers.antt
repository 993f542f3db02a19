use Rattle.std.{proofs.Common.{◌≡◌, ℕ, Option, length, ap, arith, inl, inr}, proofs.lemmas.Bool.{cases_lt}}
use Rattle.plan_values.specs.declared.plan.Plan.{Plan}
use borrow.Author.Count.{below_more}
use Rattle.net_rules.{specs.declared.move_fault.MoveRule.TheVariants.{M03}, proofs.MoveOrder.{NeedsWhatIsGiven}, proofs.MoveSearches.{first_by_node, given_beyond}}
use Rattle.net_tables.specs.TwoPlans.{moving}
use Rattle.net_rules.proofs.first_move_fault.first_superfluous.Goals as goal

pub loop-node-preserved : goal.loop-node-preserved
loop-node-preserved c =
    let D : ℕ → Option ℕ → Option ℕ → Type 0 = NeedsWhatIsGiven (moving c.args.index.now c.args.new_index.now) c.args.certificate.now in
    below_more (λ k. (entry eid : Option ℕ) → D k entry eid) c.loop-node.node c.loop-node.invariant (rw c.in_default.is at c.superfluous_entry.ensures)

pub returns-in-Some : goal.returns-in-Some
returns-in-Some c =
    let D : ℕ → Option ℕ → Option ℕ → Type 0 = NeedsWhatIsGiven (moving c.args.index.now c.args.new_index.now) c.args.certificate.now in
    first_by_node M03 D c.loop-node.node c.in-Some.spot c.loop-node.invariant (rw c.in-Some.is at c.superfluous_entry.ensures)

pub returns : goal.returns
returns c = λ n entry eid.
    let before = c.args.index.now in
    let many : length c.plan-plan.result.now.nodes.items ≡ length before.nodes.items = ap (λ (p : Plan). length p.nodes.items) c.plan-plan.ensures in
    elim (cases_lt n (length before.nodes.items)) [
      | inl within ↦ c.loop-node.invariant n (omega arith) entry eid
      | inr past ↦ given_beyond (moving c.args.index.now c.args.new_index.now) c.args.certificate.now n entry eid past
    ]
