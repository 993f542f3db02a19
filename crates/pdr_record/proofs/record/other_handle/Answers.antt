use Rattle.std.{proofs.Common.{length, drop, ◌-◌, refl, arith}, proofs.lemmas.List.{length-drop, length-take-le}}
use Rattle.pdr_record.proofs.OtherRecords.{told}
use Rattle.pdr_record.proofs.record.other_handle.Goals as goal

pub returns : goal.returns
returns c =
    let bytes = c.args.bytes.now in
    let behind = length-drop 10 bytes in
    let count = length-take-le (length bytes - 10) (drop 10 bytes) (omega (arith, behind)) in
    told c.from_le_bytes.result bytes (omega arith) (λ i. omega (arith, c.type_inv.bytes i)) (omega arith) (c.if-not-is_other_type.ensures.0 refl) (omega (arith, behind, count)) c.from_le_bytes.ensures
