use Rattle.std.{proofs.Common.{◌≡◌, ◌<◌, ◌++◌, ◌∷◌, [], List, length, map, Option, Some, sym, ◌∙◌, ap, subst, arith}, proofs.lemmas.List.{append_assoc, length_push}}
use Rattle.mctp_transport.{specs.PacketValues.{PacketValue}, specs.Packets.{packet_value_of}, specs.PacketsLeft.{frames_left}}
use Rattle.net_runs.specs.States.{Flight}
use Rattle.net_sim.{specs.Flights.{slots_of, begun}, specs.Payloads.{HaveRooms}, specs.Routers.{RouterValue}}
use Rattle.net_sim.proofs.traffic.Traffic.put_all.Goals as goal

pub put_in-requires : goal.put_in-requires
put_in-requires g c =
    c.take_room-room.ensures.first (packet_value_of c.in-Some.packet) (frames_left c.next.new.self)
    (subst (λ (fs : List PacketValue). HaveRooms fs c.loop-packet.rooms.items) c.in-Some.ensures.steps c.loop-packet.invariant.rooms)

pub loop-packet-preserved : goal.loop-packet-preserved
loop-packet-preserved g c =
    let before = c.loop-packet.invariant in
    let rest : List PacketValue = frames_left c.next.new.self in
    let slots : List (Option Flight) = slots_of c.loop-packet.self.flights in
    let added : slots_of c.add.new.self.flights ≡ slots ++ begun c.args.node (packet_value_of c.in-Some.packet) ∷ [] =
    c.add.ensures.flights ∙ ap (λ (f : Flight). slots ++ Some f ∷ []) c.put_in.ensures in
    let count = ap length c.in-Some.ensures.steps in
    record {
      node = subst (λ (r : RouterValue). c.args.node < length r.tables.plan.nodes.items) (sym c.add.ensures.router) before.node;
      few = omega (arith, before.few, count, ap length added, length_push slots (begun c.args.node (packet_value_of c.in-Some.packet)));
      room = omega (arith, before.room, count, c.add.ensures.room);
      rooms = c.take_room-room.ensures.others (packet_value_of c.in-Some.packet) rest (subst (λ (fs : List PacketValue). HaveRooms fs c.loop-packet.rooms.items) c.in-Some.ensures.steps before.rooms);
      flights = ap (λ (fs : List (Option Flight)). fs ++ map (begun c.args.node) rest) added ∙ append_assoc slots (begun c.args.node (packet_value_of c.in-Some.packet) ∷ []) (map (begun c.args.node) rest)
          ∙ ap (λ (fs : List PacketValue). slots ++ map (begun c.args.node) fs) (sym c.in-Some.ensures.steps) ∙ before.flights;
      router = c.add.ensures.router ∙ before.router;
      assemblers = c.add.ensures.assemblers ∙ before.assemblers;
      queues = c.add.ensures.queues ∙ before.queues;
    }
