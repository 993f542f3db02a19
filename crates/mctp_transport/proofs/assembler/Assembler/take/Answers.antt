use Rattle.std.proofs.Common.{◌∙◌}
use Rattle.mctp_transport.{specs.Packets.{key_value, packet_value_of}, specs.Steps.{step_answer}, proofs.AssemblyLaws.{start_takes}}
use Rattle.mctp_transport.proofs.assembler.Assembler.take.Goals as goal

pub returns-then-packet-clause-takes : goal.returns-then-packet-clause-takes
returns-then-packet-clause-takes c =
    start_takes c.args.self.now c.end.new.self c.start.new.self (packet_value_of c.args.packet.now) (key_value c.key.result)
    (step_answer c.start.new.self (packet_value_of c.args.packet.now) c.start.result)
    c.if-packet.true c.key.ensures c.end.ensures.table c.end.ensures.slots c.end.ensures.limit
    c.start.ensures.table c.start.ensures.answer c.start.ensures.slots c.start.ensures.limit (c.start.ensures.memory ∙ c.end.ensures.memory)
