use Rattle.std.{proofs.Common.{Bor, sym, ◌∙◌, ap}, specs.Prelude.{option_map}}
use Rattle.net_sim.{specs.declared.flights.Flight.{Flight}, specs.Flights.{flight_value}, proofs.Keeping.{none_at, slot_at, lent_value}}
use Rattle.net_sim.proofs.flights.Flights.get.Goals as goal

pub returns-in_err-index : goal.returns-in_err-index
returns-in_err-index c =
    let now = c.args.self.now in
    ap (option_map (λ (f : Bor Flight). flight_value f.now)) c.from_residual.ensures ∙ sym (none_at now.slots.items now.next now.ascending now.given c.args.number c.in_err-index.ensures.none)

pub returns : goal.returns
returns c =
    let now = c.args.self.now in
    let found = c.in_ok-index.ensures.found in
    let there = slot_at now.slots.items now.next now.ascending now.given c.args.number c.in_ok-index.index c.index.result.now found.0 found.1 c.index.ensures in
    lent_value c.as_ref.result ∙ ap (option_map flight_value) c.as_ref.ensures.value ∙ sym there
