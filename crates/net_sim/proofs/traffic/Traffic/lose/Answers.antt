use Rattle.std.proofs.Common.{sym, ◌∙◌}
use Rattle.net_sim.{specs.Flights.{slots_of}, specs.Standing.{at_place}, proofs.Slots.{some_by, same_means}, proofs.Changes.{same_marks}, proofs.Losing.{loses}}
use Rattle.net_sim.proofs.traffic.Traffic.lose.Goals as goal

pub returns-clause-plays : goal.returns-clause-plays
returns-clause-plays g c =
    let now = c.args.self.now in
    let found = some_by (at_place (slots_of now.flights) c.args.number) (sym c.has.ensures ∙ c.if-not-has.false) in
    loses now.router.tables _ _ c.args.number found.0 found.1 c.end.ensures.flights c.end.ensures.assemblers (same_means _ _ _ c.end.ensures.queues) (same_marks _ _ c.end.ensures.router)
