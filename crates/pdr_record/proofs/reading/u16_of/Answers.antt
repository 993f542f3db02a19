use Rattle.std.{proofs.Common.{arith}, proofs.lemmas.Nat.{le_bytes_2}}
use Rattle.pdr_record.proofs.reading.u16_of.Goals as goal

pub returns : goal.returns
returns c = le_bytes_2 c.args.bytes.now c.read_u16.result c.requires (λ i. omega (arith, c.type_inv.bytes i)) (omega arith)
