use Rattle.std.{proofs.Common.{refl, subst, sym}, specs.Prelude.{option_map}}
use Rattle.mctp_control.specs.Devices.{device_value}
use Rattle.mctp_transport.{specs.Packets.{packet_value_of}, specs.Hearing.{Hears}, specs.Heard.{heard_answer}}
use Rattle.emulated_node.{specs.Nodes.{NodeState}, specs.ReceivedValues.{received_value}, specs.Receiving.{with_packet}, specs.Standing.{setting_of}, specs.Termini.{terminus_value}, proofs.Giving.{whole_receives}}
use Rattle.emulated_node.proofs.emulated.Emulated.take_in.Goals as goal

pub returns-clause-takes : goal.returns-clause-takes
returns-clause-takes g c = λ s stands here.
    let p = packet_value_of c.args.packet in
    let means = terminus_value g.T.Terminus.tid g.T.Terminus.records in
    let heard = subst (λ h. Hears 16 4096 (s.history c.args.bus) p (heard_answer h)) c.in-Whole.is (c.in_ok-message.ensures.hears s.history stands.histories) in
    let next : NodeState = record (with_packet s c.args.bus p) { device = device_value c.reply.new.device; terminus = option_map means c.reply.new.terminus } in (
      next,
      whole_receives (setting_of c.args.self.now) s c.args.bus p (received_value c.in_ok-received.received) next
          (record { message = c.in-Whole.message.items; device = device_value c.reply.new.device; terminus = option_map means c.reply.new.terminus; hears = (here, heard); replies = rw stands.device (rw stands.terminus (rw (sym c.from.ensures) (rw (sym c.deref.ensures.value) (rw (sym c.deref-2.ensures.value) (rw (sym c.key-asked.ensures) c.in_ok-received.ensures))))); is = refl }),
      record { device = refl; terminus = refl; histories = c.hear_over.ensures.given s.history stands.histories },
    )

pub returns-in-Held-clause-takes : goal.returns-in-Held-clause-takes
returns-in-Held-clause-takes g c = λ s stands here.
    let p = packet_value_of c.args.packet in
    let heard = subst (λ h. Hears 16 4096 (s.history c.args.bus) p (heard_answer h)) c.in-Held.is (c.in_ok-message.ensures.hears s.history stands.histories) in
    (with_packet s c.args.bus p, ((here, heard), refl), record { device = stands.device; terminus = stands.terminus; histories = c.hear_over.ensures.given s.history stands.histories })

pub returns-in-Dropped-clause-takes : goal.returns-in-Dropped-clause-takes
returns-in-Dropped-clause-takes g c = λ s stands here.
    let p = packet_value_of c.args.packet in
    let heard = subst (λ h. Hears 16 4096 (s.history c.args.bus) p (heard_answer h)) c.in-Dropped.is (c.in_ok-message.ensures.hears s.history stands.histories) in
    (with_packet s c.args.bus p, ((here, heard), refl), record { device = stands.device; terminus = stands.terminus; histories = c.hear_over.ensures.given s.history stands.histories })
