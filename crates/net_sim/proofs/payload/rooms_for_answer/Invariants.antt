use Rattle.std.proofs.Common.{◌≡◌, All, length}
use Rattle.net_sim.specs.Payloads.{IsRoomFor}
use Rattle.net_sim.proofs.payload.rooms_for_answer.Given as goal

abbrev pub invariant-loop : goal.invariant-loop
invariant-loop l = (length l.rooms.items ≡ l.counter) × All (IsRoomFor l.unit) l.rooms.items
