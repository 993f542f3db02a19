-- Why a text doesn't read, by what is told of it.
use Rattle.std.{proofs.Common.{◌≡◌, ◌≢◌, ◌≤◌, ℕ, List, length, Some, None, Result, Ok, Err, string_bytes, refl, sym, ap, ◌∙◌, subst, inl, inr, []}, proofs.lemmas.Option.{none-some, same_Some}}
use Rattle.json.{specs.Json.{Json}, specs.Strict.{HasUniqueKeys}}
use Rattle.serde_json.specs.Data.{Data}
use Rattle.net_plan.{specs.CertificateReading.{certificate}, specs.CertificateText.{IsCertificateOf}, specs.EventReading.{events}, specs.EventText.{AreEventsOf}, specs.Finding.{fault_of}, specs.PlanReading.{plan}, specs.PlanText.{IsPlanOf}, specs.Reading.{IsReadOf, error_of}, specs.Refusals.{IsFaultyValue, IsNoneFor, IsRefused}, specs.SingleKeys.{single, unless_doubled}, specs.Texts.{IsJson, IsTree}, specs.Trees.{data_of}, specs.declared.error.PlanError.{PlanError}, specs.declared.error.ValueFault.{ValueFault}, proofs.CertificateLaw.{certificate_tells}, proofs.EventLaw.{events_tells}, proofs.PlanLaw.{plan_tells}, proofs.Refusing.{fault_none, single_read, value_refused}, proofs.Telling.{Tells, any, no_value}}
use Rattle.plan_values.specs.PlanValues.{PlanValue, node_names}
use Rattle.net_pointers.{specs.Asks.{Sort, plan_text, certificate_text, events_text, asks_of}, specs.OrderOfTests.{IsTold, refusal, fault_in}, specs.TextTroubles.{IsToldOfText, cause_of}, specs.declared.order.Trouble.{Trouble}, specs.declared.order.Trouble.TheVariants.{Value, UnknownName}, specs.declared.texts.TextTrouble.{TextTrouble}, specs.declared.texts.TextTrouble.TheVariants.{TooLong, NotJson, Wrong}, proofs.ValueFaults.{IsOfValue, first_of_value}}
use Rattle.reading_texts.{specs.TextErrors.{IsFaultOfText, IsFaultOfValue, IsToldAs, IsToldOf}, specs.TroubleLines.{AreTroubleLines}, specs.declared.text_error.TextFault.{TextFault}, specs.declared.text_error.TextError.{TextError}, specs.declared.text_error.TextError.TheVariants.{Faulty, OutOfMemory}}
use Rattle.net_plan.specs.declared.error.PlanError.TheVariants as error
use Rattle.net_plan.specs.declared.error.ValueFault.TheVariants as fault

-- ---- the fault of the value is that of its text

pub fault_told : (s : Sort) (text : List ℕ) (j : Json) (f : TextFault) → length text ≤ 16777216 → IsTree text j → IsJson text (data_of j) → IsFaultOfValue s text j f
    → IsFaultOfText s text f
fault_told s text j f within tree json (trouble, is, told, lines) =
    subst (λ (u : TextTrouble). IsToldOfText s text u × AreTroubleLines s text u (string_bytes f.lines)) (sym is) ((within, (j, tree, json, told)), (j, tree, json, lines))

-- ---- the fault is never want of memory

value_known : (f : ValueFault) → IsOfValue f → error_of f ≢ error.OutOfMemory
value_known fault.UnknownName h e = absurd h
value_known fault.Doubled h e = absurd h
value_known fault.OutOfMemory h e = absurd h
value_known f h e = cc

known : (s : Sort) (j : Json) (t : Trouble) → IsTold s j (Some t) → error_of (fault_in t) ≢ error.OutOfMemory
known s j (Value found) h e = value_known found.fault (first_of_value (asks_of s (data_of j)).grammar (data_of j) _ h.first.1) e
known s j t h e = cc

-- ---- a value

refused_Err : {A : Type 0} (r : Result A ValueFault) (f : ValueFault) → fault_of r ≡ Some f → r ≡ Err f
refused_Err (Ok x) f e = absurd (none-some f e)
refused_Err (Err g) f e = ap Err (same_Some _ _ e)

ok_of : {A : Type 0} (r : Result A ValueFault) → fault_of r ≡ None → (x : A) × (r ≡ Ok x)
ok_of (Ok x) e = (x, refl)
ok_of (Err f) e = absurd (none-some f (sym e))

as_read : {A : Type 0} (r : Result A ValueFault) → IsReadOf (λ x. x) r r
as_read (Ok x) = refl
as_read (Err f) = λ e. refl

module _ {A : Type 0} (s : Sort) (said : Data → Result A ValueFault) (R : Data → A → Type 0) (tells : Tells said any R)
    (by : (j : Json) → refusal s j ≡ fault_of (unless_doubled (single j) (said (data_of j)))) (text : List ℕ) where
  refused : (j : Json) (t : Trouble) → IsJson text (data_of j) → IsTree text j → IsTold s j (Some t) → IsRefused said R text (error_of (fault_in t))
  refused j t json tree h =
      value_refused said R text j (error_of (fault_in t)) json tree
      (fault_none (λ x. x) said R tells j (said (data_of j)) (fault_in t) (as_read (said (data_of j))) (refused_Err (unless_doubled (single j) (said (data_of j))) (fault_in t) (sym (by j) ∙ h.refused)))

  by_trouble : (u : TextTrouble) → IsToldOfText s text u → IsRefused said R text (cause_of u) × (cause_of u ≢ error.OutOfMemory)
  by_trouble (TooLong count) told = (inl told.1, λ e. cc)
  by_trouble (NotJson fault) told = (told.1, λ e. cc)
  by_trouble (Wrong trouble) (within, (j, tree, json, told)) = (refused j trouble json tree told, known s j trouble told)

  -- for what is told of it the text is R to nothing
  pub told_as : (e : TextError) → IsToldOf s text e → IsToldAs s said R text e
  told_as OutOfMemory told = tt
  told_as (Faulty f) told = let why = by_trouble f.trouble told.0 in (told, why.0, why.1)

  -- a value with which nothing is wrong is read
  read : (j : Json) → IsTold s j None → (x : A) × (said (data_of j) ≡ Ok x) × HasUniqueKeys j
  read j told =
      let given = ok_of (unless_doubled (single j) (said (data_of j))) (sym (by j) ∙ told.refused) in
      let is = single_read (λ x. x) said R tells j (said (data_of j)) given.0 (as_read (said (data_of j))) given.1 in
      (given.0, is.0, is.1)

  -- and is refused for want of memory alone
  pub memory_alone : (j : Json) (e : PlanError) → IsTold s j None → IsNoneFor said R j e → e ≡ error.OutOfMemory
  memory_alone j e told none = by_error e none
    where
      not : (f : ValueFault) → IsFaultyValue said R f (data_of j) → ⊥
      not f faulty = no_value (sym faulty.0 ∙ (read j told).1)

      by_error : (e : PlanError) → IsNoneFor said R j e → e ≡ error.OutOfMemory
      by_error error.NotJson h = absurd h
      by_error error.UnknownName h = absurd (not _ h.0)
      by_error error.Doubled (inl h) = absurd (not _ h)
      by_error error.Doubled (inr h) = absurd (h.0 (read j told).2)
      by_error error.Device h = absurd h
      by_error error.OutOfMemory h = refl
      by_error e h = absurd (not _ h)

-- ---- by the sort of the text

pub plan_told : (text : List ℕ) (e : TextError) → IsToldOf plan_text text e → IsToldAs plan_text plan IsPlanOf text e
plan_told text = told_as plan_text plan IsPlanOf plan_tells (λ j. refl) text

pub plan_sound : (j : Json) (e : PlanError) → IsTold plan_text j None → IsNoneFor plan IsPlanOf j e → e ≡ error.OutOfMemory
plan_sound = memory_alone plan_text plan IsPlanOf plan_tells (λ j. refl) []

module _ (p : PlanValue) (text : List ℕ) where
  abbrev nodes : List (List ℕ)
  nodes = node_names p.nodes

  pub certificate_told : (e : TextError) → IsToldOf (certificate_text nodes) text e → IsToldAs (certificate_text nodes) (certificate nodes) (IsCertificateOf p) text e
  certificate_told = told_as (certificate_text nodes) (certificate nodes) (IsCertificateOf p) (certificate_tells p) (λ j. refl) text

  pub certificate_sound : (j : Json) (e : PlanError) → IsTold (certificate_text nodes) j None → IsNoneFor (certificate nodes) (IsCertificateOf p) j e → e ≡ error.OutOfMemory
  certificate_sound = memory_alone (certificate_text nodes) (certificate nodes) (IsCertificateOf p) (certificate_tells p) (λ j. refl) text

  pub events_told : (e : TextError) → IsToldOf (events_text nodes) text e → IsToldAs (events_text nodes) (events nodes) (AreEventsOf p) text e
  events_told = told_as (events_text nodes) (events nodes) (AreEventsOf p) (events_tells p) (λ j. refl) text

  pub events_sound : (j : Json) (e : PlanError) → IsTold (events_text nodes) j None → IsNoneFor (events nodes) (AreEventsOf p) j e → e ≡ error.OutOfMemory
  events_sound = memory_alone (events_text nodes) (events nodes) (AreEventsOf p) (events_tells p) (λ j. refl) text
