-- What is wrong with a plan in which no value is.
use Rattle.std.{proofs.Common.{◌≡◌, inl, inr, ℕ, List, [], ◌∷◌, length, Bool, true, false, codes, Some, None, Ok, Err, refl, sym, ap, ◌∙◌, subst, true≢false}, proofs.lemmas.Option.{none-some}}
use Rattle.serde_json.{specs.Data.{Data}, specs.Find.{get}}
use Rattle.plan_values.{specs.Placed.{are_placed}, specs.PlanValues.{PlanValue, bus_names}}
use Rattle.net_plan.{specs.Finding.{Located, first_fault, refused}, specs.Fitting.{Fits, FieldsFit}, specs.Grammar.{Known}, specs.Json.{demand}, specs.Made.{plan_made}, specs.Names.{names_differ, names_at}, specs.PlanReading.{plan_format, plan_tested, plan}, specs.Reading.{then_with}, specs.Refusals.{IsWellButForNames}, specs.Tables.{plan_lists, a_plan}, specs.declared.error.ValueFault.{ValueFault}, specs.declared.error.ValueFault.TheVariants.{UnknownName, Doubled}, proofs.Fitting.{none_fits, fits_none}}
use Rattle.net_pointers.{specs.Asks.{DoDiffer, IsDoubledIn, known_in, plan_text, asks_of, list_names}, specs.declared.order.NameList.TheVariants.{Buses}, proofs.Doubling.{first_differs}, proofs.NamesTold.{texts_are_names}, proofs.Told.{Says}, specs.declared.doubled.TwoIndices.{TwoIndices}, specs.declared.order.NameList.{NameList}}
use Rattle.net_plan.proofs.PlanLaw as law

abbrev with_buses : List (List ℕ) → Data → Known
with_buses buses d = record { buses = buses; nodes = names_at (codes "nodes") d }

module _ (d : Data) (none : first_fault None (a_plan (plan_format d)) d ≡ None) where
  loose : Fits None (a_plan (plan_format d)) d
  loose = none_fits None (a_plan (plan_format d)) d none

  lists : FieldsFit None plan_lists d
  lists = (law.parts (plan_format d) d loose).3

  -- what is made of the plan
  abbrev made : PlanValue
  made = plan_made (plan_format d) d

  abbrev is_placed : Bool
  is_placed = are_placed (length made.buses) made.nodes

  named : bus_names made.buses ≡ names_at (codes "buses") d
  named = sym (law.buses_named d made.buses ((law.buses_at (known_in d)).there d lists.0))

  -- the names by which the nodes are made are those that are told
  known_is : law.known d lists ≡ known_in d
  known_is = ap (λ buses. with_buses buses d) named

  decided : (b : Bool) → names_differ (names_at (codes "buses") d) ≡ b → plan d ≡ then_with (demand Doubled b) (λ _. then_with (demand UnknownName is_placed) (λ _. Ok made))
  decided b e = ap (λ o. then_with (refused o) (λ _. plan_tested made)) none ∙ ap (λ b. then_with (demand Doubled b) (λ _. then_with (demand UnknownName is_placed) (λ _. Ok made))) (ap names_differ named ∙ e)

  late_doubled : names_differ (names_at (codes "buses") d) ≡ false → plan d ≡ Err Doubled
  late_doubled e = decided false e

  all_known : is_placed ≡ true → first_fault (Some (known_in d)) (a_plan (plan_format d)) d ≡ None
  all_known e =
      let k = law.known d lists in
      subst (λ k. first_fault (Some k) (a_plan (plan_format d)) d ≡ None) known_is
      (fits_none (Some k) (a_plan (plan_format d)) d (law.strictly k (plan_format d) d loose ((law.nodes_at k).known d lists.1.0 (sym (law.placed_is d lists) ∙ e))))

  late_unknown : (l : Located) → names_differ (names_at (codes "buses") d) ≡ true → first_fault (Some (known_in d)) (a_plan (plan_format d)) d ≡ Some l → plan d ≡ Err UnknownName
  late_unknown l single told = decided true single ∙ by is_placed refl
    where
      by : (b : Bool) → is_placed ≡ b → then_with (demand UnknownName b) (λ _. Ok made) ≡ Err UnknownName
      by true e = absurd (none-some l (sym (all_known e) ∙ told))
      by false e = refl

  late_well : names_differ (names_at (codes "buses") d) ≡ true → IsWellButForNames plan d
  late_well single = λ f e. by is_placed f (sym (decided true single) ∙ e)
    where
      by : (b : Bool) (f : ValueFault) → then_with (demand UnknownName b) (λ _. Ok made) ≡ Err f → f ≡ UnknownName
      by true f e = cc
      by false f e = cc

  late_read : names_differ (names_at (codes "buses") d) ≡ true → first_fault (Some (known_in d)) (a_plan (plan_format d)) d ≡ None → (p : PlanValue) × (plan d ≡ Ok p)
  late_read single told =
      let k = law.known d lists in
      let fits = none_fits (Some k) (a_plan (plan_format d)) d (subst (λ k. first_fault (Some k) (a_plan (plan_format d)) d ≡ None) (sym known_is) told) in
      let all : is_placed ≡ true = law.placed_is d lists ∙ (law.nodes_at k).passes d (law.nodes_of k (plan_format d) d fits) in
      (made, decided true single ∙ ap (λ b. then_with (demand UnknownName b) (λ _. Ok made)) all)

-- ---- by the order of tests

names_are : (d : Data) → list_names Buses d ≡ names_at (codes "buses") d
names_are d = texts_are_names (get (codes "buses") d)

buses_twice : (d : Data) (list : NameList) (indices : TwoIndices) → IsDoubledIn (Buses ∷ []) list indices d → names_differ (names_at (codes "buses") d) ≡ false
buses_twice d list indices (inl h) = ap names_differ (sym (names_are d)) ∙ first_differs (list_names Buses d) indices h.1
buses_twice d list indices (inr h) = absurd h.1

buses_once : (d : Data) → DoDiffer (Buses ∷ []) d → names_differ (names_at (codes "buses") d) ≡ true
buses_once d h = ap names_differ (sym (names_are d)) ∙ h.0

pub plan_says : (d : Data) → Says plan (asks_of plan_text d) d
plan_says d = record {
  value = λ l e. ap (λ o. then_with (refused o) (λ _. plan_tested (plan_made (plan_format d) d))) e;
  doubled = λ right list indices h. late_doubled d right (buses_twice d list indices h);
  overlapping = λ once e apart. absurd (true≢false (sym e));
  well = λ h. late_well d h.0.0 (buses_once d h.0.1);
  unknown = λ h l told. late_unknown d h.0.0 l (buses_once d h.0.1) told;
  read = λ h told. late_read d h.0.0 (buses_once d h.0.1) told;
}
