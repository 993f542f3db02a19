use Rattle.std.proofs.Common.{sym, ap, ◌∙◌, ◌==◌, position, ℕ}
use Rattle.mctp_transport.{specs.Packets.{key_value}, specs.Tables.{is_at}, specs.KeyNumbers.{key_number, slot_number}, proofs.AssemblyLaws.{position_rows}, proofs.KeyNumberLaws.{at_number}}
use Rattle.mctp_transport.proofs.assembler.Assembler.slot_of_key.Goals as goal

pub returns-clause-index : goal.returns-clause-index
returns-clause-index c =
    c.slot_of.ensures.index
    ∙ ap (λ (n : ℕ). position (λ slot. slot_number slot == n) c.args.self.now.slots.items) c.number_of.ensures
    ∙ sym (position_rows (is_at (key_value c.args.key)) (λ o. slot_number o == key_number c.args.key) c.args.self.now.limit c.args.self.now.block.items c.args.self.now.slots.items (at_number c.args.key))
