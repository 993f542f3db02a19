use Rattle.std.proofs.Common.{refl, inl, inr}
use Rattle.net_questions.proofs.FirstRows.{goes_moves, goes_nowhere}
use Rattle.net_questions.proofs.hops.next_node.Goals as goal

pub returns-then-holds-clause-first : goal.returns-then-holds-clause-first
returns-then-holds-clause-first c = goes_nowhere c.args.plan.now c.args.eid.value c.args.node (inl (c.holds.ensures.0 c.if-holds.true))

pub returns-in-Some-clause-row : goal.returns-in-Some-clause-row
returns-in-Some-clause-row c =
    goes_moves c.args.plan.now c.args.eid.value c.args.node c.in-Some.row.now.next
    ((λ held. cc (c.holds.ensures.1 held, c.if-holds.false)), c.in-Some.row.now, c.in-Some.ensures, refl)

pub returns-in-Some-clause-first : goal.returns-in-Some-clause-first
returns-in-Some-clause-first c = ((λ held. cc (c.holds.ensures.1 held, c.if-holds.false)), c.in-Some.row.now, c.in-Some.ensures, refl)

pub returns-in-None-clause-row : goal.returns-in-None-clause-row
returns-in-None-clause-row c = inr c.in-None.ensures

pub returns-in-None-clause-first : goal.returns-in-None-clause-first
returns-in-None-clause-first c = goes_nowhere c.args.plan.now c.args.eid.value c.args.node (inr c.in-None.ensures)
