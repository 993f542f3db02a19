use Rattle.std.{proofs.Common.{◌≡◌, sym, ◌∙◌, Some}, specs.Prelude.{position}}
use Rattle.mctp_transport.{specs.PacketValues.{key_of}, specs.Packets.{packet_value_of}, specs.Tables.{is_at}, specs.Assembly.{table_of, assembler_limit}, proofs.AssemblyLaws.{carried_there}}
use Rattle.mctp_transport.proofs.assembler.Assembler.carry.Goals as goal

pub returns-in-Some-clause-table : goal.returns-in-Some-clause-table
returns-in-Some-clause-table c =
    let found : position (is_at (key_of (packet_value_of c.args.packet.now))) (table_of c.args.self.now) ≡ Some c.in-Some.index = rw (← c.key.ensures) (sym c.in-Some.ensures.index) in
    let h = carried_there (assembler_limit c.args.self.now) (table_of c.args.self.now) (packet_value_of c.args.packet.now) c.in-Some.index found in
    c.go_on.ensures.table h.held h.there ∙ sym h.table

pub returns-in-Some-clause-answer : goal.returns-in-Some-clause-answer
returns-in-Some-clause-answer c =
    let found : position (is_at (key_of (packet_value_of c.args.packet.now))) (table_of c.args.self.now) ≡ Some c.in-Some.index = rw (← c.key.ensures) (sym c.in-Some.ensures.index) in
    let h = carried_there (assembler_limit c.args.self.now) (table_of c.args.self.now) (packet_value_of c.args.packet.now) c.in-Some.index found in
    c.go_on.ensures.answer h.held h.there ∙ sym h.answer
