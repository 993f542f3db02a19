use Rattle.std.proofs.Common.{sym, ◌∙◌, ap, is_some}
use Rattle.net_sim.proofs.Keeping.{none_at, slot_at, some_means}
use Rattle.net_sim.proofs.flights.Flights.has.Goals as goal

pub returns-in-Some : goal.returns-in-Some
returns-in-Some c =
    let now = c.args.self.now in
    let found = c.in-Some.ensures.found in
    let there = slot_at now.slots.items now.next now.ascending now.given c.args.number c.in-Some.index c.index.result.now found.0 found.1 c.index.ensures in
    c.is_some.ensures ∙ some_means c.index.result.now.flight ∙ sym (ap is_some there)

pub returns-in-None : goal.returns-in-None
returns-in-None c =
    let now = c.args.self.now in
    sym (ap is_some (none_at now.slots.items now.next now.ascending now.given c.args.number c.in-None.ensures.none))
