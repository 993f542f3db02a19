-- What is told by the order of tests.
use Rattle.std.{proofs.Common.{◌≡◌, ◌<◌, ◌+◌, ℕ, List, ◌∷◌, drop, length, get_or, Bool, true, false, not, true≢false, is_some, Option, Some, None, Result, Ok, Err, refl, sym, ap, ◌∙◌, subst, inl, inr}, specs.Prelude.{IfOk, IfSome, MatchOption}, proofs.lemmas.List.{at_drop_more}}
use Rattle.json.specs.Json.{Json}
use Rattle.serde_json.specs.Data.{Data}
use Rattle.net_plan.{specs.CertificateReading.{certificate}, specs.EventReading.{events}, specs.Names.{names_differ}, specs.PlanReading.{plan}, specs.Trees.{data_of}}
use Rattle.net_pointers.{specs.Asks.{Asks, Sort, plan_text, certificate_text, events_text, asks_of, DoDiffer, IsDoubledIn, list_names}, specs.Doubles.{IsFirstDoubled}, specs.OrderOfTests.{IsFirstTrouble, IsTold}, specs.declared.doubled.TwoIndices.{TwoIndices}, specs.declared.order.NameList.{NameList}, specs.declared.order.Trouble.{Trouble}, specs.declared.ranges.Overlap.{Overlap}, proofs.LateCertificates.{certificate_says}, proofs.LateEvents.{events_say}, proofs.LatePlans.{plan_says}, proofs.Told.{refused_for}}

told_of : (s : Sort) (j : Json) (t : Option Trouble) → IsFirstTrouble (asks_of s (data_of j)) j t → IsTold s j t
told_of plan_text j t h = record { first = h; refused = refused_for plan (asks_of plan_text (data_of j)) j (plan_says (data_of j)) t h }
told_of (certificate_text nodes) j t h =
    record { first = h; refused = refused_for (certificate nodes) (asks_of (certificate_text nodes) (data_of j)) j (certificate_says nodes (data_of j)) t h }
told_of (events_text nodes) j t h =
    record { first = h; refused = refused_for (events nodes) (asks_of (events_text nodes) (data_of j)) j (events_say nodes (data_of j)) t h }

pub told : {E : Type 0} (s : Sort) (j : Json) (a : Asks) (r : Result (Option Trouble) E) → a ≡ asks_of s (data_of j) → IfOk r (λ t. IsFirstTrouble a j t) → IfOk r (λ t. IsTold s j t)
told s j a (Ok t) is h = told_of s j t (subst (λ a. IsFirstTrouble a j t) is h)
told s j a (Err e) is h = tt

-- ---- from list to list

module _ (lists : List NameList) (i : ℕ) (x : NameList) (d : Data) (within : i < length lists) (is : x ≡ get_or lists i x) where
  next : drop i lists ≡ x ∷ drop (i + 1) lists
  next = at_drop_more (λ (ls : List NameList). ls) lists i x within ∙ ap (λ (y : NameList). y ∷ drop (i + 1) lists) (sym is)

  pub differ_more : names_differ (list_names x d) ≡ true → (DoDiffer (drop i lists) d → DoDiffer lists d) → DoDiffer (drop (i + 1) lists) d → DoDiffer lists d
  differ_more single left rest = left (subst (λ ls. DoDiffer ls d) (sym next) (single, rest))

  pub doubled_more : names_differ (list_names x d) ≡ true → ((at : NameList) (indices : TwoIndices) → IsDoubledIn (drop i lists) at indices d → IsDoubledIn lists at indices d)
      → (at : NameList) (indices : TwoIndices) → IsDoubledIn (drop (i + 1) lists) at indices d → IsDoubledIn lists at indices d
  doubled_more single left at indices rest = left at indices (subst (λ ls. IsDoubledIn ls at indices d) (sym next) (inr (single, rest)))

  pub doubled_here : (indices : TwoIndices) → IsFirstDoubled (list_names x d) indices → ((at : NameList) (indices : TwoIndices) → IsDoubledIn (drop i lists) at indices d → IsDoubledIn lists at indices d)
      → IsDoubledIn lists x indices d
  doubled_here indices twice left = left x indices (subst (λ ls. IsDoubledIn ls x indices d) (sym next) (inl (refl, twice)))

-- ---- ranges

pub overlap_told : (o : Option Overlap) (asked b : Bool) (P : Overlap → Type 0) → asked ≡ true → is_some o ≡ not b → IfSome o P → MatchOption o (asked ≡ true → b ≡ true) (λ v. (asked ≡ true) × (b ≡ false) × P v)
overlap_told None asked true P is told found = λ e. refl
overlap_told None asked false P is told found = absurd (true≢false (sym told))
overlap_told (Some v) asked true P is told found = absurd (true≢false told)
overlap_told (Some v) asked false P is told found = (is, refl, found)
