use Rattle.std.proofs.Common.{◌≢◌, refl}
use Rattle.mctp_transport.specs.Packets.{packet_value_of}
use Rattle.emulated_node.{specs.ReceivedValues.{received_value}, specs.Standing.{setting_of}, proofs.Giving.{on_receives}}
use Rattle.emulated_node.proofs.emulated.Emulated.receive.Goals as goal

pub returns-in_ok-received-in-Forward-clause-receives : goal.returns-in_ok-received-in-Forward-clause-receives
returns-in_ok-received-in-Forward-clause-receives g c = λ s stands.
    let p = packet_value_of c.args.packet in
    let other : c.args.packet.header.destination.value ≢ 0 = λ zero. let here = c.in-Forward.ensures.null zero in cc in (
      s,
      on_receives (setting_of c.args.self.now) s c.args.bus p (received_value c.in_ok-received-in-Forward.received) s
          (c.in-Forward.hop, (other, rw stands.device (c.in-Forward.ensures.decided other)), c.in_ok-received-in-Forward.ensures, refl),
      record { device = stands.device; terminus = stands.terminus; histories = stands.histories },
    )
