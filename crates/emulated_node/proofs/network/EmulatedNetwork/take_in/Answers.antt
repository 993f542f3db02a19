use Rattle.std.proofs.Common.{◌≡◌, map, refl, subst}
use Rattle.mctp_transport.specs.Packets.{packet_value_of}
use Rattle.emulated_node.{specs.Emulations.{world_of}, specs.Networks.{sent_on, sent_value, with_state}, specs.Nodes.{Setting}, specs.ReceivedValues.{received_value}, specs.Receiving.{Receives}, proofs.Spreading.{alone_becomes, setting_after}}
use Rattle.emulated_node.specs.declared.handled.Handled.TheVariants as handled
use Rattle.emulated_node.proofs.network.EmulatedNetwork.take_in.Goals as goal

pub returns-in_ok-sent_on-in-Sent-clause-becomes : goal.returns-in_ok-sent_on-in-Sent-clause-becomes
returns-in_ok-sent_on-in-Sent-clause-becomes g c = λ s stands.
    let (set, goes) = c.requires.goes in
    let n = c.args.node in
    let frame = packet_value_of c.args.frame in
    let went = c.in_ok-packets.ensures.receives s set stands goes.there in
    let sent = c.in_ok-sent_on-in-Sent in
    let same = setting_after c.args.self.now.nodes.items c.receive_at.new.nodes.items n c.index.result.now set c.receive_at.ensures.settings c.requires.node c.index.ensures goes.there in (
      with_state s n went.0,
      (
        set,
        frame,
        c.in-Sent.bus,
        map (λ p. p.items) c.in-Sent.packets.items,
        record { node = n; next = went.0; goes = goes; few = c.requires.few; spelled = c.requires.spelled; receives = subst (λ r. Receives set (s n) c.args.packet.now.way.bus frame (received_value r) went.0) c.in-Sent.is went.1; is = refl },
        subst (λ (x : Setting). map sent_value sent.field-0.items ≡ map (sent_on x (sent_value c.args.packet.now) frame.destination) (map (λ p. p.items) c.in-Sent.packets.items)) same sent.ensures,
      ),
      went.2,
    )

pub returns-in-Held-clause-becomes : goal.returns-in-Held-clause-becomes
returns-in-Held-clause-becomes g c = λ s stands.
    let (set, goes) = c.requires.goes in
    let n = c.args.node in
    let frame = packet_value_of c.args.frame in
    let went = c.in_ok-packets.ensures.receives s set stands goes.there in (
      with_state s n went.0,
      alone_becomes (world_of c.args.self.now) s (with_state s n went.0) (sent_value c.args.packet.now) c.alone.result.handled handled.Held c.alone.result.sent.items c.alone.ensures.handled c.alone.ensures.sent
          ((set, frame, record { node = n; next = went.0; goes = goes; few = c.requires.few; spelled = c.requires.spelled; receives = subst (λ r. Receives set (s n) c.args.packet.now.way.bus frame (received_value r) went.0) c.in-Held.is went.1; is = refl }), refl),
      went.2,
    )

pub returns-in-Dropped-clause-becomes : goal.returns-in-Dropped-clause-becomes
returns-in-Dropped-clause-becomes g c = λ s stands.
    let (set, goes) = c.requires.goes in
    let n = c.args.node in
    let frame = packet_value_of c.args.frame in
    let went = c.in_ok-packets.ensures.receives s set stands goes.there in (
      with_state s n went.0,
      alone_becomes (world_of c.args.self.now) s (with_state s n went.0) (sent_value c.args.packet.now) c.alone-in-Dropped.result.handled (handled.Dropped c.in-Dropped.why) c.alone-in-Dropped.result.sent.items
          c.alone-in-Dropped.ensures.handled c.alone-in-Dropped.ensures.sent
          ((set, frame, record { node = n; next = went.0; goes = goes; few = c.requires.few; spelled = c.requires.spelled; receives = subst (λ r. Receives set (s n) c.args.packet.now.way.bus frame (received_value r) went.0) c.in-Dropped.is went.1; is = refl }), refl),
      went.2,
    )
