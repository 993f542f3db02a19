use Rattle.std.{proofs.Common.{◌≡◌, ℕ, true, false, is_some, is_none, cond, get_or, Option, option_map, ◌-◌, sym, ◌∙◌, ap, subst, arith}, specs.Prelude.{slice_set}, specs.List.{HoldsAt}, proofs.lemmas.List.{get_or_default}}
use Rattle.net_sim.{specs.declared.flights.Flight.{Flight}, specs.declared.flights.Slot.{Slot}, specs.Flights.{flight_value, slots_of}, proofs.Keeping.{none_at, slot_at, is_filled, set_ascend, set_given, set_counted, set_means}, proofs.Tallying.{Counts, end_tallied}}
use Rattle.net_sim.proofs.flights.Flights.end.Goals as goal

pub returns-in_err-index-clause-flight : goal.returns-in_err-index-clause-flight
returns-in_err-index-clause-flight c =
    let now = c.args.self.now in
    ap (option_map flight_value) c.from_residual.ensures ∙ sym (none_at now.slots.items now.next now.ascending now.given c.args.number c.in_err-index.ensures.none)

pub returns-in_err-index-clause-slots : goal.returns-in_err-index-clause-slots
returns-in_err-index-clause-slots c =
    let now = c.args.self.now in
    let none = none_at now.slots.items now.next now.ascending now.given c.args.number c.in_err-index.ensures.none in
    let e : false ≡ true = sym (ap is_some none) ∙ c.requires in
    absurd (cc e)

pub invariant_of-self : goal.invariant_of-self
invariant_of-self c =
    let now = c.args.self.now in
    let slots = now.slots.items in
    let index = c.in_ok-index.index in
    let old = c.index_mut.result.now in
    let new : Slot = record { number = old.number; flight = c.take-flight.new.self } in
    let found = c.in_ok-index.ensures.found in
    let is : old.number ≡ c.args.number = ap (λ (s : Slot). s.number) c.index_mut.ensures.value ∙ found.1 old in
    let has : HoldsAt (λ (s : Slot). s.number ≡ old.number) slots index = λ d. found.1 d ∙ sym is in
    let there = slot_at slots now.next now.ascending now.given c.args.number index (get_or slots index new) found.0 found.1 (sym (get_or_default slots index (get_or slots index new) new found.0)) in
    let some = is_filled (get_or slots index new).flight (sym (ap is_some there) ∙ c.requires) in
    let taken : c.take-flight.result ≡ (get_or slots index new).flight = c.take-flight.ensures.value ∙ ap (λ (s : Slot). s.flight) (c.index_mut.ensures.value ∙ sym (get_or_default slots index new old found.0)) in
    let one : ◌≡◌ {A = ℕ} (cond (is_none c.take-flight.new.self) 1 0) 1 = ap (λ (o : Option Flight). cond (is_none o) 1 0) c.take-flight.ensures.after in
    record {
      begun = now.begun;
      ascending = set_ascend slots now.next now.ascending now.given new index found.0 has;
      given = set_given slots now.next now.ascending now.given new index found.0 has;
      counted = omega (arith, now.counted, one, set_counted slots now.next now.ascending now.given new index found.0 has some);
      tallied = end_tallied now.counts c.leave.new.counts slots now.tallied new index found.0 c.take-flight.ensures.after
          (subst (λ (o : Option Flight). Counts (λ n m. n - m) now.counts c.leave.new.counts (option_map flight_value o)) taken c.leave.ensures);
    }

pub returns-clause-flight : goal.returns-clause-flight
returns-clause-flight c =
    let now = c.args.self.now in
    let found = c.in_ok-index.ensures.found in
    let there = slot_at now.slots.items now.next now.ascending now.given c.args.number c.in_ok-index.index c.index_mut.result.now found.0 found.1 c.index_mut.ensures.value in
    ap (option_map flight_value) c.take-flight.ensures.value ∙ sym there

pub returns-clause-slots : goal.returns-clause-slots
returns-clause-slots c =
    let now = c.args.self.now in
    let slots = now.slots.items in
    let index = c.in_ok-index.index in
    let old = c.index_mut.result.now in
    let new : Slot = record { number = old.number; flight = c.take-flight.new.self } in
    let found = c.in_ok-index.ensures.found in
    let is : old.number ≡ c.args.number = ap (λ (s : Slot). s.number) c.index_mut.ensures.value ∙ found.1 old in
    let has : HoldsAt (λ (s : Slot). s.number ≡ old.number) slots index = λ d. found.1 d ∙ sym is in
    set_means slots now.next now.ascending now.given new index found.0 has
    ∙ ap (λ (n : ℕ). slice_set (slots_of now) n (option_map flight_value c.take-flight.new.self)) is
    ∙ ap (λ (o : Option Flight). slice_set (slots_of now) c.args.number (option_map flight_value o)) c.take-flight.ensures.after
