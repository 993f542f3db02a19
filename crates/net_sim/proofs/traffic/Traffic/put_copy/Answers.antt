use Rattle.std.proofs.Common.{sym, subst}
use Rattle.net_runs.specs.States.{Flight}
use Rattle.net_sim.{specs.Flights.{flight_value}, specs.Placing.{IsPlaced}, specs.Routers.{RouterValue}}
use Rattle.net_sim.proofs.traffic.Traffic.put_copy.Goals as goal

pub add-requires-clause-placed : goal.add-requires-clause-placed
add-requires-clause-placed g c =
    let now = c.args.self.now in
    let P : Flight → Type 0 = IsPlaced now.router.tables.plan now.router.certificate in
    let placed = subst P (sym c.in_ok-copy.ensures.same) (now.placed c.args.number (flight_value c.in-Some.flight.now) (sym c.in-Some.ensures)) in
    subst (λ (r : RouterValue). IsPlaced r.tables.plan r.certificate (flight_value c.in_ok-copy.copy)) (sym c.reserve.ensures.router) placed
