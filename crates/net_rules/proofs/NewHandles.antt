-- Handles that are apart from one another and from 0, or that are ticked off, and new handles.
use Rattle.std.{proofs.Common.{Bool, true, false, ◌≡◌, ◌≢◌, ℕ, zero, suc, ◌+◌, ◌<◌, List, length, Some, sym, ◌∙◌, ap, subst, inl, inr, arith, get_or, slice_set}, specs.Prelude.{slice_get}, proofs.lemmas.Bool.{cases_lt}, proofs.lemmas.Option.{same_Some, slice_get_within, slice_get-get_or, get_or_from_slice_get}}
use Rattle.plan_values.specs.declared.terminus.PlannedRecord.{PlannedRecord}
use Rattle.net_rules.{specs.RecordChains.{HaveNewHandles}, proofs.Handles.{handles_of, handle_of_record, record_of_handle}}
use Rattle.net_tables.{specs.Repositories.{HasNewHandle}, proofs.Elements.{set_there, set_other}}
use Rattle.pdr_repository.proofs.Ascending.{AreApart}

module _ (records : List PlannedRecord) where
  pub apart_new : AreApart (handles_of records) → HaveNewHandles records
  apart_new apart j r is =
      let here = handle_of_record records j r is in
      let within = slice_get_within (handles_of records) j r.handle here in
      let value : get_or (handles_of records) j 0 ≡ r.handle = get_or_from_slice_get (handles_of records) j r.handle 0 here in (
        λ none. apart 0 (suc j) 0 (omega arith) (omega (arith, within)) (sym (value ∙ none)),
        λ i other less at same.
            let there = handle_of_record records i other at in
            let its : get_or (handles_of records) i 0 ≡ other.handle = get_or_from_slice_get (handles_of records) i other.handle 0 there in
            apart (suc i) (suc j) 0 (omega (arith, less)) (omega (arith, within)) (its ∙ (same ∙ sym value)),
      )

  pub new_apart : HaveNewHandles records → AreApart (handles_of records)
  new_apart new i zero d less within same = absurd (omega arith)
  new_apart new zero (suc j) d less within same =
      let lt : j < length (handles_of records) = omega (arith, within) in
      let r = record_of_handle records j (get_or (handles_of records) j d) (slice_get-get_or (handles_of records) j d lt) in
      (new j r.0 r.1).0 (r.2 ∙ sym same)
  new_apart new (suc i) (suc j) d less within same =
      let lt : j < length (handles_of records) = omega (arith, within) in
      let before : i < length (handles_of records) = omega (arith, within, less) in
      let r = record_of_handle records j (get_or (handles_of records) j d) (slice_get-get_or (handles_of records) j d lt) in
      let other = record_of_handle records i (get_or (handles_of records) i d) (slice_get-get_or (handles_of records) i d before) in
      (new j r.0 r.1).1 i other.0 (omega (arith, less)) other.1 (other.2 ∙ (same ∙ sym r.2))

-- the first so many records have new handles, and each of these is ticked off
pub record AreTicked (records : List PlannedRecord) (count : ℕ) (ticks : List Bool) : Type 0 where
  pub new : (k : ℕ) (r : PlannedRecord) → k < count → slice_get records k ≡ Some r → HasNewHandle records k r
  pub ticked : (k : ℕ) (r : PlannedRecord) → k < count → slice_get records k ≡ Some r → slice_get ticks r.handle ≡ Some true

module _ (records : List PlannedRecord) (count : ℕ) (ticks : List Bool) (before : AreTicked records count ticks) (r : PlannedRecord) (is : slice_get records count ≡ Some r) where
  module _ (some : r.handle ≢ 0) (free : slice_get ticks r.handle ≡ Some false) where
    new_at_last : HasNewHandle records count r
    new_at_last = (
      some,
      λ i other less at same.
          let old : slice_get ticks r.handle ≡ Some true = subst (λ (h : ℕ). slice_get ticks h ≡ Some true) same (before.ticked i other less at) in
          let twice : true ≡ false = same_Some true false (sym old ∙ free) in
          absurd (cc),
    )

    pub one_ticked : AreTicked records (count + 1) (slice_set ticks r.handle true)
    one_ticked = record {
      new = λ k s lt at. elim (cases_lt k count) [
        | inl less ↦ before.new k s less at
        | inr last ↦ (let same : count ≡ k = omega arith in
            let one : r ≡ s = same_Some r s (sym is ∙ (ap (λ i. slice_get records i) same ∙ at)) in
            subst (λ (p : ℕ × PlannedRecord). HasNewHandle records p.0 p.1) (ap (λ (x : PlannedRecord). (count, x)) one ∙ ap (λ (i : ℕ). (i, s)) same) new_at_last)
      ];
      ticked = λ k s lt at. elim (cases_lt k count) [
        | inl less ↦ (let old = before.ticked k s less at in
            set_other ticks true r.handle s.handle true (λ same. let twice : true ≡ false = same_Some true false (sym old ∙ (ap (λ h. slice_get ticks h) same ∙ free)) in absurd (cc)) old)
        | inr last ↦ (let same : count ≡ k = omega arith in
            let one : r ≡ s = same_Some r s (sym is ∙ (ap (λ i. slice_get records i) same ∙ at)) in
            subst (λ (x : PlannedRecord). slice_get (slice_set ticks r.handle true) x.handle ≡ Some true) one (set_there ticks true r.handle (slice_get_within ticks r.handle false free)))
      ];
    }
