use Rattle.std.proofs.Common.{subst}
use Rattle.emulated_node.specs.Standing.{HasNodeState, setting_of}
use Rattle.bus_commands.{specs.PacketLines.{Says, said_value}, specs.declared.line.Said.{Said}, proofs.TurnLaws.{says_bytes}}
use Rattle.bus_commands.proofs.turn.give_line.Goals as goal

pub returns-in-Packet-clause-gives : goal.returns-in-Packet-clause-gives
returns-in-Packet-clause-gives g c =
    let Stands = HasNodeState g.T.Terminus.tid g.T.Terminus.records in
    says_bytes (Stands c.args.emulated.now) (Stands c.take_bytes.new.emulated) c.args.is_addressed (setting_of c.args.emulated.now) c.plan.result.now c.node.result c.in-Packet.bus
    c.in-Packet.bytes.items c.deref.result.now c.args.line.now c.take_bytes.result c.plan.ensures c.node.ensures
    (subst (λ (read : Said). Says c.args.is_addressed c.plan.result.now c.node.result c.args.line.now (said_value read)) c.in-Packet.is c.in_ok-said.ensures)
    c.deref.ensures.value c.take_bytes.ensures.takes
