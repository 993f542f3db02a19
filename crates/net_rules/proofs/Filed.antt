-- Handles in the order of the places, one record after another.
use Rattle.std.{proofs.Common.{◌≡◌, ◌≢◌, ◌⊎◌, ℕ, ◌+◌, ◌<◌, ◌≤◌, List, length, Option, Some, None, sym, ◌∙◌, ap, subst, inl, inr, arith, slice_set}, specs.Prelude.{slice_get}, proofs.lemmas.Bool.{cases_lt}, proofs.lemmas.Option.{same_Some, none-some, slice_get_within}, proofs.lemmas.List.{length-set}}
use Rattle.plan_values.specs.declared.terminus.PlannedRecord.{PlannedRecord}
use Rattle.net_tables.{specs.Repositories.{IsChained}, proofs.Elements.{in_set}}
use Rattle.net_rules.specs.Handles.{AreFiled}

module _ (records : List PlannedRecord) (places : List ℕ) where
  -- the next record has a place that is free
  module _ (count : ℕ) (handles : List (Option ℕ)) (filed : AreFiled records places count handles) (r : PlannedRecord) (is : slice_get records count ≡ Some r) where
    module _ (place : ℕ) (given : slice_get places count ≡ Some place) (free : slice_get handles place ≡ Some None) where
      within : place < length handles
      within = slice_get_within handles place None free

      new : (i : ℕ) → i < count → slice_get places i ≢ Some place
      new i lt at = filed.taken i place lt at free

      pub one_filed : AreFiled records places (count + 1) (slice_set handles place (Some r.handle))
      one_filed = record {
        long = length-set handles place (Some r.handle) ∙ filed.long;
        own = λ j lt. elim (cases_lt j count) [
          | inl less ↦ filed.own j less
          | inr last ↦ (let same : count ≡ j = omega arith in
              let P : ℕ → Type 0 = λ k. (p : ℕ) × (slice_get places k ≡ Some p) × (p < length records) × ((i : ℕ) → i < k → slice_get places i ≢ Some p) in
              subst P same (place, given, omega (arith, within, filed.long), new))
        ];
        taken = λ j p lt at none. elim (in_set handles (Some r.handle) place p None within none) [
          | inr (_, some) ↦ none-some r.handle (sym some)
          | inl (other, old) ↦ elim (cases_lt j count) [
            | inl less ↦ filed.taken j p less at old
            | inr last ↦ (let same : j ≡ count = omega arith in other (same_Some p place (sym at ∙ (ap (λ k. slice_get places k) same ∙ given))))
          ]
        ];
        found = λ p handle at. elim (in_set handles (Some r.handle) place p (Some handle) within at) [
          | inl (_, old) ↦ filed.found p handle old
          | inr (here, some) ↦ (count, r, is, given ∙ ap Some (sym here), sym (same_Some r.handle handle some))
        ];
      }

  -- where the next handle stands at the place after its own, the record is chained
  module _ (handles : List (Option ℕ)) (filed : AreFiled records places (length records) handles) where
    pub filed_chained : (j place : ℕ) (r : PlannedRecord) → slice_get records j ≡ Some r → slice_get places j ≡ Some place
        → (slice_get handles (place + 1) ≡ Some (Some r.next)) ⊎ ((length handles ≤ place + 1) × (r.next ≡ 0)) → IsChained records places j r
    filed_chained j place r is given leads =
        let own = filed.own j (slice_get_within records j r is) in
        let same : own.0 ≡ place = same_Some own.0 place (sym own.1 ∙ given) in
        let less : place < length records = omega (arith, own.2, same) in
        record {
          place = place;
          given = given;
          within = less;
          new = subst (λ p. (i : ℕ) → i < j → slice_get places i ≢ Some p) same own.3;
          next = elim leads [
            | inl at ↦ inl (filed.found (place + 1) r.next at)
            | inr (past, none) ↦ inr (omega (arith, past, less, filed.long), none)
          ];
        }
