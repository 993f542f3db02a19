use Rattle.std.{proofs.Common.{◌≡◌, ◌<◌, length, Some, refl, sym, ◌∙◌, ap, arith}, specs.Prelude.{slice_get}, proofs.lemmas.Option.{slice_get_read}}
use Rattle.mctp_transport.{specs.PacketValues.{key_of}, specs.Packets.{key_value}, specs.Hearing.{Whole, Held, Dropped}}
use Rattle.net_runs.specs.Termini.{WaitingMessage}
use Rattle.net_sim.{specs.Flights.{flight_value}, proofs.Entering.{receives_held, receives_dropped, receives_whole, queue_waits, queue_there, short_map, at_bytes, as_sized}}
use Rattle.net_sim.proofs.traffic.Traffic.receive.Goals as goal

pub returns-in-Held-clause-receives : goal.returns-in-Held-clause-receives
returns-in-Held-clause-receives g c =
    let now = c.args.self.now in
    let f = flight_value c.args.flight.now in
    let a = c.index_mut.result.now in
    let within : f.node < length now.assemblers.items = omega (arith, c.requires.node, now.assembled) in
    let here : slice_get now.assemblers.items f.node ≡ Some a = slice_get_read now.assemblers.items _ _ a refl within c.index_mut.ensures.value in
    receives_held _ _ c.args.number f a c.feed-receipt.new.assembler (key_value c.key-key.result) (c.key-key.ensures ∙ ap key_of c.view.ensures) within here
    c.feed-receipt.ensures.stands refl refl refl (as_sized a f.packet Held (now.sized f.node a here) c.in-Held.ensures.hears) refl

pub returns-in-Dropped-clause-receives : goal.returns-in-Dropped-clause-receives
returns-in-Dropped-clause-receives g c =
    let now = c.args.self.now in
    let f = flight_value c.args.flight.now in
    let a = c.index_mut.result.now in
    let within : f.node < length now.assemblers.items = omega (arith, c.requires.node, now.assembled) in
    let here : slice_get now.assemblers.items f.node ≡ Some a = slice_get_read now.assemblers.items _ _ a refl within c.index_mut.ensures.value in
    receives_dropped _ _ c.args.number f a c.feed-receipt.new.assembler (key_value c.key-key.result) (c.key-key.ensures ∙ ap key_of c.view.ensures) within here
    c.feed-receipt.ensures.stands refl refl refl c.in-Dropped.why (as_sized a f.packet (Dropped c.in-Dropped.why) (now.sized f.node a here) c.in-Dropped.ensures.hears) refl

pub returns-in-Whole-clause-receives : goal.returns-in-Whole-clause-receives
returns-in-Whole-clause-receives g c =
    let now = c.args.self.now in
    let f = flight_value c.args.flight.now in
    let a = c.index_mut.result.now in
    let within : f.node < length now.assemblers.items = omega (arith, c.requires.node, now.assembled) in
    let here : slice_get now.assemblers.items f.node ≡ Some a = slice_get_read now.assemblers.items _ _ a refl within c.index_mut.ensures.value in
    let m = c.in-Whole.bytes.items in
    let key = key_value c.key-key.result in
    let message : WaitingMessage = record { key = key; bytes = m } in
    receives_whole _ _ c.args.number f a c.feed-receipt.new.assembler key (c.key-key.ensures ∙ ap key_of c.view.ensures) within here
    c.feed-receipt.ensures.stands refl refl refl m _ (as_sized a f.packet (Whole m) (now.sized f.node a here) c.in-Whole.ensures.hears)
    (short_map _ now.queues.items f.node (omega (arith, c.requires.node, now.queued)))
    (queue_there _ now.queues.items f.node c.index_mut-in-Whole.result.now
    (slice_get_read now.queues.items _ _ c.index_mut-in-Whole.result.now refl (omega (arith, c.requires.node, now.queued)) c.index_mut-in-Whole.ensures.value))
    (λ fits ends. queue_waits _ _ _ _ message _
    (at_bytes m c.deref.result.now (sym c.deref.ensures.value) key _ _ (λ short. c.wait_at.ensures (omega (arith, short, c.requires.enough.3 ends))) fits))
