use Rattle.std.proofs.Common.{length, sym, ◌∙◌, ap, arith, rules}
use Rattle.mctp_routing.proofs.PieceSteps.{none_left, next_last, next_gap, next_part, ahead_then_gap, ahead_then_part, reaches_stop}
use Rattle.mctp_routing.proofs.pieces.PiecesIterator.next.Goals as goal

pub returns-then-self-clause-steps : goal.returns-then-self-clause-steps
returns-then-self-clause-steps c =
    let none = none_left c.self.inside.rows.now c.self.inside.from c.self.inside.end c.if-self.true in
    (sym c.self.view_is ∙ none, sym c.self.view_is ∙ none)

pub returns-in_default-clause-steps : goal.returns-in_default-clause-steps
returns-in_default-clause-steps c =
    sym c.self.view_is
    ∙ next_last c.self.inside.rows.now c.self.inside.from c.self.inside.end c.cut.new.from _ (search rules) c.if-self.false c.cut.ensures.piece c.cut.ensures.moved

pub returns-in_default-clause-goes : goal.returns-in_default-clause-goes
returns-in_default-clause-goes c =
    let steps = returns-in_default-clause-steps c in record { on = λ _. (tt, tt, omega (arith, ap length steps)); keeps = tt; rests = λ _. tt }

pub invariant_of-self-then-self-begin : goal.invariant_of-self-then-self-begin
invariant_of-self-then-self-begin c =
    ahead_then_gap c.self.inside.rows.now c.in-Some.later.now c.in-Some.row.now c.self.inside.from c.self.inside.end c.cut-then-self-begin.new.from
    c.min.result c.in-Some.ensures.cases.0 (omega arith) c.cut-then-self-begin.ensures.moved c.self.invariant

pub returns-then-self-begin-clause-steps : goal.returns-then-self-begin-clause-steps
returns-then-self-begin-clause-steps c =
    sym c.self.view_is
    ∙ next_gap c.self.inside.rows.now c.in-Some.later.now c.in-Some.row.now c.self.inside.from c.self.inside.end c.cut-then-self-begin.new.from
    c.min.result _ c.in-Some.ensures.cases.0 c.if-self.false (omega arith) (omega arith) c.cut-then-self-begin.ensures.piece
    c.cut-then-self-begin.ensures.moved

pub returns-then-self-begin-clause-goes : goal.returns-then-self-begin-clause-goes
returns-then-self-begin-clause-goes c =
    let steps = returns-then-self-begin-clause-steps c in record { on = λ _. (tt, tt, omega (arith, ap length steps)); keeps = tt; rests = λ _. tt }

pub cut-requires-2-clause-filled : goal.cut-requires-2-clause-filled
cut-requires-2-clause-filled c =
    let lt = reaches_stop c.self.inside.rows.now c.in-Some.later.now c.in-Some.row.now c.self.inside.from c.self.inside.end c.in-Some.ensures.cases.0
    c.self.invariant c.if-self.false in
    omega arith

pub invariant_of-self-2 : goal.invariant_of-self-2
invariant_of-self-2 c =
    ahead_then_part c.self.inside.rows.now c.in-Some.later.now c.in-Some.row.now c.self.inside.from c.self.inside.end c.cut-2.new.from c.min-2.result
    c.in-Some.ensures.cases.0 (omega arith) c.cut-2.ensures.moved c.self.invariant

pub returns-clause-steps : goal.returns-clause-steps
returns-clause-steps c =
    sym c.self.view_is
    ∙ next_part c.self.inside.rows.now c.in-Some.later.now c.in-Some.row.now c.self.inside.from c.self.inside.end c.cut-2.new.from c.min-2.result _
    c.in-Some.ensures.cases.0 c.if-self.false (omega arith) c.self.invariant (omega arith) c.cut-2.ensures.piece c.cut-2.ensures.moved

pub returns-clause-goes : goal.returns-clause-goes
returns-clause-goes c = let steps = returns-clause-steps c in record { on = λ _. (tt, tt, omega (arith, ap length steps)); keeps = tt; rests = λ _. tt }
