use Rattle.mctp_transport.{specs.Packets.{packet_value_of}, specs.Heard.{heard_answer}}
use Rattle.emulated_node.proofs.Giving.{given, sized, hears_over}
use Rattle.emulated_node.proofs.hearing.hear_over.Goals as goal

pub returns-clause-sized : goal.returns-clause-sized
returns-clause-sized c =
    sized c.args.assemblers.now.items c.args.bus c.index_mut.result.now c.hear.new.assembler c.requires.bus c.index_mut.ensures.value c.hear.ensures.slots c.hear.ensures.limit c.requires.sized

pub returns-clause-given : goal.returns-clause-given
returns-clause-given c = λ history before.
    given c.args.assemblers.now.items c.args.bus c.index_mut.result.now c.hear.new.assembler c.requires.bus c.index_mut.ensures.value (packet_value_of c.args.packet) history c.hear.ensures.stands before

pub returns-clause-hears : goal.returns-clause-hears
returns-clause-hears c =
    hears_over c.args.assemblers.now.items c.args.bus c.index_mut.result.now c.hear.new.assembler c.requires.bus c.index_mut.ensures.value heard_answer (packet_value_of c.args.packet) c.hear.result
    c.requires.sized c.hear.ensures.hears
