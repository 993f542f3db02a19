use Rattle.std.{proofs.Common.{◌≡◌, ℕ, ◌<◌, true, false, is_some, Option, option_map, get_or, sym, ◌∙◌, ap, subst}, specs.Prelude.{slice_set, IfSome}, specs.List.{HoldsAt}, proofs.lemmas.List.{get_or_default}}
use Rattle.net_sim.{specs.declared.flights.Slot.{Slot}, specs.Flights.{flight_value, slots_of, gone_on}, proofs.Keeping.{none_at, slot_at, set_ascend, set_given, set_means, few_hops}, specs.Tallies.{slot_goes_to}, proofs.Tallying.{same_tallied, still_goes, still_counted}}
use Rattle.mctp_transport.specs.PacketValues.{KeyValue}
use Rattle.net_runs.specs.States as state
use Rattle.net_sim.proofs.flights.Flights.go_on.Goals as goal

pub go_on-requires : goal.go_on-requires
go_on-requires c =
    let now = c.args.self.now in
    let found = c.in-Some.ensures.found in
    let there = slot_at now.slots.items now.next now.ascending now.given c.args.number c.in-Some.index c.index_mut.result.now found.0 found.1 c.index_mut.ensures.value in
    few_hops c.index_mut.result.now.flight (subst (λ (o : Option state.Flight). IfSome o (λ f. f.hops < 255)) there c.requires.few)

pub invariant_of-self : goal.invariant_of-self
invariant_of-self c =
    let now = c.args.self.now in
    let slots = now.slots.items in
    let index = c.in-Some.index in
    let old = c.index_mut.result.now in
    let new : Slot = c.go_on.new.self in
    let found = c.in-Some.ensures.found in
    let is : new.number ≡ c.args.number = c.go_on.ensures.number ∙ ap (λ (s : Slot). s.number) c.index_mut.ensures.value ∙ found.1 old in
    let has : HoldsAt (λ (s : Slot). s.number ≡ new.number) slots index = λ d. found.1 d ∙ sym is in
    let there : get_or slots index new ≡ old = get_or_default slots index new old found.0 ∙ sym c.index_mut.ensures.value in
    let alike : (key : KeyValue) (d : ℕ) → slot_goes_to key d new ≡ slot_goes_to key d (get_or slots index new) = λ key d.
    still_goes c.args.node new old c.go_on.ensures.flight key d ∙ ap (slot_goes_to key d) (sym there) in
    record {
      begun = now.begun;
      ascending = set_ascend slots now.next now.ascending now.given new index found.0 has;
      given = set_given slots now.next now.ascending now.given new index found.0 has;
      counted = still_counted c.args.node now.empty index slots new old found.0 c.index_mut.ensures.value c.go_on.ensures.flight now.counted;
      tallied = same_tallied now.counts slots new index found.0 alike now.tallied;
    }

pub returns-in-Some-clause-slots : goal.returns-in-Some-clause-slots
returns-in-Some-clause-slots c =
    let now = c.args.self.now in
    let slots = now.slots.items in
    let index = c.in-Some.index in
    let old = c.index_mut.result.now in
    let new : Slot = c.go_on.new.self in
    let found = c.in-Some.ensures.found in
    let is : new.number ≡ c.args.number = c.go_on.ensures.number ∙ ap (λ (s : Slot). s.number) c.index_mut.ensures.value ∙ found.1 old in
    let has : HoldsAt (λ (s : Slot). s.number ≡ new.number) slots index = λ d. found.1 d ∙ sym is in
    let there = slot_at slots now.next now.ascending now.given c.args.number index old found.0 found.1 c.index_mut.ensures.value in
    set_means slots now.next now.ascending now.given new index found.0 has
    ∙ ap (λ (n : ℕ). slice_set (slots_of now) n (option_map flight_value new.flight)) is
    ∙ ap (λ (o : Option state.Flight). slice_set (slots_of now) c.args.number o) (c.go_on.ensures.flight ∙ ap (option_map (gone_on c.args.node)) (sym there))

pub returns-in_default-clause-slots : goal.returns-in_default-clause-slots
returns-in_default-clause-slots c =
    let now = c.args.self.now in
    let none = none_at now.slots.items now.next now.ascending now.given c.args.number c.in_default.ensures.none in
    let e : false ≡ true = sym (ap is_some none) ∙ c.requires.there in
    absurd (cc e)
