use Rattle.std.proofs.Common.{None}
use Rattle.net_runs.specs.States.{Flight}
use Rattle.net_sim.{specs.Flights.{slots_of, flight_at}, specs.Placing.{IsPlaced}, proofs.Slots.{each_set, some_by, some_within}}
use Rattle.net_sim.proofs.traffic.Traffic.end.Goals as goal

pub invariant_of-self : goal.invariant_of-self
invariant_of-self g c =
    let now = c.args.self.now in
    let P : Flight → Type 0 = IsPlaced now.router.tables.plan now.router.certificate in
    let found = some_by (flight_at (slots_of now.flights) c.args.number) c.requires in
    let within = some_within (slots_of now.flights) c.args.number found.0 found.1 in
    let placed = each_set (slots_of now.flights) P c.args.number None within now.placed (λ a is. absurd (cc is)) in
    record { queued = now.queued; assembled = now.assembled; sized = now.sized; placed = λ k f is. placed k f (rw c.end.ensures.slots at is) }
