use Rattle.std.proofs.Common.{◌≡◌, ◌+◌, ◌<◌, ◌≤◌, ◌++◌, length, map}
use Rattle.mctp_transport.specs.PacketsLeft.{frames_left}
use Rattle.net_runs.specs.Events.{most_flights}
use Rattle.net_sim.{specs.Flights.{slots_of, room_of, begun}, specs.Payloads.{HaveRooms}}
use Rattle.net_sim.proofs.traffic.Traffic.put_all.Given as goal

abbrev pub invariant-loop-packet : goal.invariant-loop-packet
invariant-loop-packet g l = record {
  node : l.node < length l.self.router.tables.plan.nodes.items;
  few : length (slots_of l.self.flights) + length (frames_left l.packet-iterator) ≤ most_flights + 1;
  room : length (frames_left l.packet-iterator) ≤ room_of l.self.flights;
  rooms : HaveRooms (frames_left l.packet-iterator) l.rooms.items;
  flights : slots_of l.self.flights ++ map (begun l.node) (frames_left l.packet-iterator) ≡ slots_of l.initial.self.flights ++ map (begun l.node) (frames_left l.initial.packet-iterator);
  router : l.self.router ≡ l.initial.self.router;
  assemblers : l.self.assemblers.items ≡ l.initial.self.assemblers.items;
  queues : l.self.queues.items ≡ l.initial.self.queues.items;
}
