use Rattle.std.proofs.lemmas.Result.{err_from_is_err_and}
use Rattle.pdr_record.proofs.BodyFaults.{terminus_ends, numeric_fault, state_ends, association_ends}
use Rattle.pdr_record.proofs.body.Body.take.Goals as goal

pub returns-in_err-take-in-2-clause-refused : goal.returns-in_err-take-in-2-clause-refused
returns-in_err-take-in-2-clause-refused c =
    let p = err_from_is_err_and c.from_residual-in_err-take-in-2.result c.from_residual-in_err-take-in-2.ensures.1 in
    rw (p.1, p.2) (numeric_fault _ c.args.record_type c.args.fields.now.rest.now c.in-2.is c.in_err-take-in-2.ensures.refused)

pub returns-in_err-take-in-4-clause-refused : goal.returns-in_err-take-in-4-clause-refused
returns-in_err-take-in-4-clause-refused c =
    let p = err_from_is_err_and c.from_residual-in_err-take-in-4.result c.from_residual-in_err-take-in-4.ensures.1 in
    let h = c.in_err-take-in-4.ensures.refused in
    rw (p.1, p.2, h.0, c.in-4.is) (state_ends c.args.fields.now.rest.now h.1)

pub returns-in_err-take-in-15-clause-refused : goal.returns-in_err-take-in-15-clause-refused
returns-in_err-take-in-15-clause-refused c =
    let p = err_from_is_err_and c.from_residual-in_err-take-in-15.result c.from_residual-in_err-take-in-15.ensures.1 in
    let h = c.in_err-take-in-15.ensures.refused in
    rw (p.1, p.2, h.0, c.in-15.is) (association_ends c.args.fields.now.rest.now h.1)

pub returns-in_err-take-in-1-clause-refused : goal.returns-in_err-take-in-1-clause-refused
returns-in_err-take-in-1-clause-refused c =
    let p = err_from_is_err_and c.from_residual.result c.from_residual.ensures.1 in
    let h = c.in_err-take-in-1.ensures.refused in
    rw (p.1, p.2, h.0, c.in-1.is) (terminus_ends c.args.fields.now.rest.now h.1)
