use Rattle.std.{proofs.Common.{◌≡◌, ◌∷◌, [], arith}, proofs.lemmas.Result.{err_from_is_err_and}}
use Rattle.pdr_record.{specs.Fields.{U8, U16, U32, followed}, proofs.RecordFaults.{fault_behind}}
use Rattle.pdr_record.proofs.record.Record.of.Goals as goal

pub returns-in_err-body-clause-refused : goal.returns-in_err-body-clause-refused
returns-in_err-body-clause-refused c =
    let p = err_from_is_err_and c.from_residual.result c.from_residual.ensures.1 in
    let rest = c.u16.new.self.rest.now in
    let is : c.args.bytes.now
    ≡ followed (U32 c.u32-handle.result ∷ U8 c.u8.result ∷ U8 c.u8-record_type.result ∷ U16 c.u16-change.result ∷ U16 c.u16.result ∷ []) rest = cc in
    rw (p.1, p.2) (fault_behind _ c.u32-handle.result c.u8.result c.u8-record_type.result c.u16-change.result c.u16.result rest c.args.bytes.now is c.if-u8-ne-HEADER_VERSION.false (omega arith) (omega arith)
    c.in_err-body.ensures.refused)
