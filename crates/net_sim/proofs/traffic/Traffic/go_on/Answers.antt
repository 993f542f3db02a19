use Rattle.std.{proofs.Common.{Option}, specs.Prelude.{option_map}}
use Rattle.net_runs.specs.States.{Flight}
use Rattle.net_sim.{specs.Flights.{slots_of, flight_at, gone_on}, specs.Placing.{IsPlaced}, proofs.Slots.{each_set, mapped_some, some_by, some_within}}
use Rattle.net_sim.proofs.traffic.Traffic.go_on.Goals as goal

pub invariant_of-self : goal.invariant_of-self
invariant_of-self g c =
    let now = c.args.self.now in
    let P : Flight → Type 0 = IsPlaced now.router.tables.plan now.router.certificate in
    let there : Option Flight = flight_at (slots_of now.flights) c.args.number in
    let found = some_by there c.requires.there in
    let within = some_within (slots_of now.flights) c.args.number found.0 found.1 in
    let placed = each_set (slots_of now.flights) P c.args.number (option_map (gone_on c.args.node) there) within now.placed
    (λ a is. mapped_some (gone_on c.args.node) P there c.requires.placed a is) in
    record { queued = now.queued; assembled = now.assembled; sized = now.sized; placed = λ k f is. placed k f (rw c.go_on.ensures.slots at is) }
