use Rattle.std.{proofs.Common.{◌≡◌, ℕ, List, Vec, Global, Some, length, get_or, true, false, sym, subst, ap, ◌∙◌, arith, inl, inr}, specs.Prelude.{slice_get}, proofs.lemmas.Bool.{cases_lt}, proofs.lemmas.Option.{slice_get_read, get_or_from_slice_get}}
use Rattle.pdr_repository.specs.Records.{IsRecordOf}
use Rattle.pdr_repository.proofs.lawful_list.are_records.Goals as goal

abbrev IsOne : (ℕ × Vec ℕ Global) → Type 0
IsOne r = IsRecordOf r.0 r.1.items

pub returns-then-not-is_record : goal.returns-then-not-is_record
returns-then-not-is_record c =
    let records = c.args.records.now in
    let k = c.loop-record.record-index in
    let r = c.record-item.result in
    let here : slice_get records k ≡ Some r = slice_get_read records (length records) k r (omega arith) (omega arith) c.record-item.is in
    let B : List ℕ → Type 0 = λ bytes. IsRecordOf r.0 bytes in (
      λ h. absurd (let e : false ≡ true = h in cc),
      λ all. c.if-not-is_record.ensures.1 (subst B (sym c.as_slice.ensures.value) (subst IsOne (get_or_from_slice_get records k r r here) (all k r (omega arith)))),
    )

pub loop-record-preserved : goal.loop-record-preserved
loop-record-preserved c = λ i d less.
    let records = c.args.records.now in
    let k = c.loop-record.record-index in
    let r = c.record-item.result in
    let here : slice_get records k ≡ Some r = slice_get_read records (length records) k r (omega arith) (omega arith) c.record-item.is in
    let B : List ℕ → Type 0 = λ bytes. IsRecordOf r.0 bytes in
    elim (cases_lt i k) [
      | inl before ↦ c.loop-record.invariant i d before
      | inr last ↦
          let same : k ≡ i = omega arith in
          let is : r ≡ get_or records i d = sym (get_or_from_slice_get records k r d here) ∙ ap (λ (j : ℕ). get_or records j d) same in
          subst IsOne is (subst B c.as_slice.ensures.value (c.is_record.ensures.0 c.if-not-is_record.false))
    ]
