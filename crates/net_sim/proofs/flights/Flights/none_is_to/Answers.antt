use Rattle.std.{proofs.Common.{rules, of_calls, sym, ◌∙◌, ◌↔◌, All, IsTrue, Option, option_map}, proofs.lemmas.Bool.Decides.{Decides-eqb}}
use Rattle.mctp_transport.specs.Packets.{key_value}
use Rattle.net_sim.{specs.Flights.{flight_value}, specs.Settling.{IsNotTo}, specs.declared.flights.Slot.{Slot}, proofs.Keeping.{each_number, each_slot}, proofs.Tallying.{none_counted, counted_none}}
use Rattle.net_runs.specs.States as state
use Rattle.net_sim.proofs.flights.Flights.none_is_to.Goals as goal

pub returns-in-None : goal.returns-in-None
returns-in-None c =
    let now = c.args.self.now in
    let P : Option state.Flight → Type 0 = IsNotTo (key_value c.args.key) c.args.eid.value in
    let told : IsTrue c.all.result ↔ All (λ (slot : Slot). P (option_map flight_value slot.flight)) now.slots.items = search (rules, of_calls) in (
      λ yes. each_number now.slots.items now.next now.ascending now.given P tt (told.0 yes),
      λ all. told.1 (each_slot now.slots.items now.next now.ascending now.given P tt all),
    )

pub returns-in-Some : goal.returns-in-Some
returns-in-Some c =
    let now = c.args.self.now in
    let key = key_value c.args.key in
    let d = c.args.eid.value in
    let P : Option state.Flight → Type 0 = IsNotTo key d in
    let is = now.tallied key d c.in-Some.count c.args.key.tag.in_range (sym c.in-Some.ensures) in (
      λ yes. each_number now.slots.items now.next now.ascending now.given P tt (none_counted key d now.slots.items (sym is ∙ (Decides-eqb c.in-Some.count 0).0 yes)),
      λ all. (Decides-eqb c.in-Some.count 0).1 (is ∙ counted_none key d now.slots.items (each_slot now.slots.items now.next now.ascending now.given P tt all)),
    )
