use Rattle.std.{proofs.Common.{Option}, specs.Prelude.{option_map}}
use Rattle.net_runs.specs.States.{Flight}
use Rattle.net_sim.{specs.Flights.{slots_of, flight_value}, specs.Placing.{IsPlaced}, proofs.Slots.{each_push, mapped_some}}
use Rattle.net_sim.proofs.traffic.Traffic.add.Goals as goal

pub invariant_of-self : goal.invariant_of-self
invariant_of-self g c =
    let now = c.args.self.now in
    let P : Flight → Type 0 = IsPlaced now.router.tables.plan now.router.certificate in
    let o : Option Flight = option_map flight_value c.args.flight in
    let placed = each_push (slots_of now.flights) P o now.placed (λ a is. mapped_some flight_value P c.args.flight c.requires.placed a is) in
    record { queued = now.queued; assembled = now.assembled; sized = now.sized; placed = λ k f is. placed k f (rw c.push.ensures.slots at is) }
