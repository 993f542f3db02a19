use Rattle.std.proofs.Common.{ap, subst, ◌∙◌}
use Rattle.emulated_node.{specs.ReceivedValues.{received_value}, specs.Standing.{HasNodeState, setting_of}}
use Rattle.mctp_transport.{specs.PacketValues.{Spelled}, specs.Packets.{packet_value_of}}
use Rattle.plan_values.specs.declared.plan.Plan.{Plan}
use Rattle.bus_commands.proofs.TurnLaws.{comes_all}
use Rattle.bus_commands.proofs.turn.take_bytes.Goals as goal

pub returns-in_ok-received-in-Ok-clause-takes : goal.returns-in_ok-received-in-Ok-clause-takes
returns-in_ok-received-in-Ok-clause-takes g c =
    let Stands = HasNodeState g.T.Terminus.tid g.T.Terminus.records in
    let frame = packet_value_of c.in-Ok.packet in
    let unit = c.from.ensures ∙ ap (λ (p : Plan). p.unit) c.plan.ensures in
    comes_all (Stands c.args.emulated.now) (Stands c.receive.new.self) c.args.is_addressed (setting_of c.args.emulated.now) (setting_of c.receive.new.self) c.args.bus c.args.bytes.now
    c.args.line.now frame (received_value c.in_ok-received-in-Ok.received) c.told.result c.in_ok-received-in-Ok.ensures.setting (subst (λ u. Spelled u frame c.args.bytes.now) unit c.in-Ok.ensures.ok)
    c.in_ok-received-in-Ok.ensures.receives c.told.ensures
