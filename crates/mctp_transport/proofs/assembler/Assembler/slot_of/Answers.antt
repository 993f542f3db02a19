use Rattle.std.proofs.Common.{◌==◌, arith}
use Rattle.mctp_transport.{specs.KeyNumbers.{slot_number}, proofs.KeyNumberLaws.{position_within, position_past}}
use Rattle.mctp_transport.proofs.assembler.Assembler.slot_of.Goals as goal

pub returns-then-index-len-clause-index : goal.returns-then-index-len-clause-index
returns-then-index-len-clause-index c =
    position_within (λ n. n == c.args.number) slot_number c.args.self.now.slots.items c.args.self.now.numbers _ c.args.self.now.numbered c.first_index-index.ensures (omega (arith, c.len.ensures, c.args.self.now.slots.ok.0, c.if-index-len.true))

pub returns-else-index-len-clause-index : goal.returns-else-index-len-clause-index
returns-else-index-len-clause-index c =
    position_past (λ n. n == c.args.number) slot_number c.args.self.now.slots.items c.args.self.now.numbers _ c.args.self.now.numbered c.first_index-index.ensures (omega (arith, c.len.ensures, c.args.self.now.slots.ok.0, c.if-index-len.false))
