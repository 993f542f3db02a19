use Rattle.std.proofs.Common.{◌∷◌, ◌++◌, [], List, Option, Some, length, ◌∙◌, ap, subst, arith}
use Rattle.mctp_transport.{specs.Packets.{packet_value_of}, specs.PacketValues.{Spelled}}
use Rattle.net_runs.specs.States.{Flight}
use Rattle.net_sim.{specs.Flights.{slots_of, flight_value}, proofs.Slots.{same_means}, proofs.Changes.{same_marks}, proofs.Putting.{put_no_number, puts, put_wants}}
use Rattle.net_sim.proofs.traffic.Traffic.put.Goals as goal

pub returns-then-left-lt1-clause-plays : goal.returns-then-left-lt1-clause-plays
returns-then-left-lt1-clause-plays g c =
    let now = c.args.self.now in
    put_no_number now.router.tables _ c.args.node c.args.bytes.now (packet_value_of c.in-Ok.packet) (c.has_node.ensures.0 c.if-not-has_node.false) (subst (λ u. Spelled u (packet_value_of c.in-Ok.packet) c.args.bytes.now) c.unit.ensures.unit c.in-Ok.ensures.ok)
    (omega (arith, c.left.ensures, c.if-left-lt1.true))

pub returns-in_default-room_for_flight-clause-plays : goal.returns-in_default-room_for_flight-clause-plays
returns-in_default-room_for_flight-clause-plays g c =
    let now = c.args.self.now in
    put_wants now.router.tables _ c.args.node c.args.bytes.now _ (packet_value_of c.in-Ok.packet) (c.has_node.ensures.0 c.if-not-has_node.false) (subst (λ u. Spelled u (packet_value_of c.in-Ok.packet) c.args.bytes.now) c.unit.ensures.unit c.in-Ok.ensures.ok)
    (omega (arith, c.left.ensures, c.if-left-lt1.false)) c.room_for_flight.ensures.flights c.room_for_flight.ensures.assemblers (same_means _ _ _ c.room_for_flight.ensures.queues)
    (same_marks _ _ c.room_for_flight.ensures.router)

pub returns-clause-plays : goal.returns-clause-plays
returns-clause-plays g c =
    let now = c.args.self.now in
    puts now.router.tables _ c.args.node c.args.bytes.now _ (packet_value_of c.in-Ok.packet) c.add-number.result (c.has_node.ensures.0 c.if-not-has_node.false) (subst (λ u. Spelled u (packet_value_of c.in-Ok.packet) c.args.bytes.now) c.unit.ensures.unit c.in-Ok.ensures.ok)
    (omega (arith, c.left.ensures, c.if-left-lt1.false)) (c.add-number.ensures.number ∙ ap length c.room_for_flight.ensures.flights)
    (c.add-number.ensures.flights ∙ (ap (λ (fs : List (Option Flight)). fs ++ Some (flight_value c.put_in.result) ∷ []) c.room_for_flight.ensures.flights
    ∙ ap (λ (f : Flight). slots_of now.flights ++ Some f ∷ []) c.put_in.ensures))
    (c.add-number.ensures.assemblers ∙ c.room_for_flight.ensures.assemblers) (same_means _ _ _ (c.add-number.ensures.queues ∙ c.room_for_flight.ensures.queues))
    (same_marks _ _ (c.add-number.ensures.router ∙ c.room_for_flight.ensures.router))
