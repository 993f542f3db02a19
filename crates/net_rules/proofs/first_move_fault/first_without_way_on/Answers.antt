use Rattle.std.{proofs.Common.{ℕ, Option, length, arith, inl, inr}, proofs.lemmas.Bool.{cases_lt}}
use borrow.Author.Count.{below_more}
use Rattle.net_rules.{specs.declared.move_fault.MoveRule.TheVariants.{M02}, specs.HeldEids.{IsLedOn}, proofs.Beyond.{at_row_eid}, proofs.MoveOrder.{LeadsOn}, proofs.MoveSearches.{first_by_node}}
use Rattle.net_tables.specs.TwoPlans.{moving}
use Rattle.net_rules.proofs.first_move_fault.first_without_way_on.Goals as goal

pub loop-node-preserved : goal.loop-node-preserved
loop-node-preserved c =
    let D : ℕ → Option ℕ → Option ℕ → Type 0 = LeadsOn (moving c.args.index.now c.args.new_index.now) c.args.whose.now in
    below_more (λ k. (entry eid : Option ℕ) → D k entry eid) c.loop-node.node c.loop-node.invariant (rw c.in_default.is at c.row_without_way_on.ensures)

pub returns-in-Some : goal.returns-in-Some
returns-in-Some c =
    let D : ℕ → Option ℕ → Option ℕ → Type 0 = LeadsOn (moving c.args.index.now c.args.new_index.now) c.args.whose.now in
    first_by_node M02 D c.loop-node.node c.in-Some.spot c.loop-node.invariant (rw c.in-Some.is at c.row_without_way_on.ensures)

pub returns : goal.returns
returns c = λ n entry eid.
    let whose = c.args.whose.now in
    elim (cases_lt n (length whose.nodes.items)) [
      | inl within ↦ c.loop-node.invariant n (omega arith) entry eid
      | inr past ↦ at_row_eid whose n (λ row e. IsLedOn (moving c.args.index.now c.args.new_index.now) n e row.next) entry eid past
    ]
