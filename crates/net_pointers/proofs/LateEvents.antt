-- What is wrong with events of which no value is.
use Rattle.std.{proofs.Common.{◌≡◌, ℕ, List, length, Bool, true, false, Some, None, Ok, Err, refl, sym, ap, ◌∙◌, true≢false}, proofs.lemmas.Option.{none-some}, specs.List.{list_all}}
use Rattle.serde_json.specs.Data.{Data}
use Rattle.net_plan.{specs.EventReading.{events_format, events_tested, events}, specs.Finding.{Located, first_fault, refused}, specs.Fitting.{Fits}, specs.Json.{demand}, specs.Made.{events_made}, specs.Names.{index_among}, specs.Reading.{then_with}, specs.Refusals.{IsWellButForNames}, specs.Tables.{events_in}, specs.declared.error.ValueFault.{ValueFault}, specs.declared.error.ValueFault.TheVariants.{UnknownName}, proofs.EventLaw.{strictly, pass}, proofs.Fitting.{none_fits, fits_none}}
use Rattle.plan_values.specs.EventValues.{EventEntry, is_known_event}
use Rattle.net_pointers.{specs.Asks.{asks_of, events_text, known_nodes}, proofs.Told.{Says}}

only_names : (b : Bool) (es : List EventEntry) (f : ValueFault) → then_with (demand UnknownName b) (λ _. Ok es) ≡ Err f → f ≡ UnknownName
only_names true es f e = cc
only_names false es f e = cc

module _ (nodes : List (List ℕ)) (d : Data) (none : first_fault None (events_in (events_format d)) d ≡ None) where
  loose : Fits None (events_in (events_format d)) d
  loose = none_fits None (events_in (events_format d)) d none

  -- what is made of the events
  abbrev made : List EventEntry
  made = events_made (index_among nodes) d

  abbrev all_known : Bool
  all_known = list_all (is_known_event (length nodes)) made

  decided : events nodes d ≡ then_with (demand UnknownName all_known) (λ _. Ok made)
  decided = ap (λ o. then_with (refused o) (λ _. events_tested (length nodes) made)) none

  late_well : IsWellButForNames (events nodes) d
  late_well = λ f e. only_names all_known made f (sym decided ∙ e)

  late_unknown : (l : Located) → first_fault (Some (known_nodes nodes)) (events_in (events_format d)) d ≡ Some l → events nodes d ≡ Err UnknownName
  late_unknown l told = decided ∙ by all_known refl
    where
      by : (b : Bool) → all_known ≡ b → then_with (demand UnknownName b) (λ _. Ok made) ≡ Err UnknownName
      by true all = absurd (none-some l (sym (fits_none (Some (known_nodes nodes)) (events_in (events_format d)) d (strictly nodes d loose all)) ∙ told))
      by false all = refl

  late_read : first_fault (Some (known_nodes nodes)) (events_in (events_format d)) d ≡ None → (es : List EventEntry) × (events nodes d ≡ Ok es)
  late_read told = (made, decided ∙ ap (λ b. then_with (demand UnknownName b) (λ _. Ok made)) (pass nodes d (none_fits (Some (known_nodes nodes)) (events_in (events_format d)) d told)))

pub events_say : (nodes : List (List ℕ)) (d : Data) → Says (events nodes) (asks_of (events_text nodes) d) d
events_say nodes d = record {
  value = λ l e. ap (λ o. then_with (refused o) (λ _. events_tested (length nodes) (events_made (index_among nodes) d))) e;
  doubled = λ right list indices h. absurd h;
  overlapping = λ once e apart. absurd (true≢false (sym e));
  well = λ h. late_well nodes d h.0.0;
  unknown = λ h l told. late_unknown nodes d h.0.0 l told;
  read = λ h told. late_read nodes d h.0.0 told;
}
