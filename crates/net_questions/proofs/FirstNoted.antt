-- The first indices of numbers, as far as they were looked at.
use Rattle.std.{proofs.Common.{◌≡◌, ◌≢◌, ◌↔◌, ℕ, ◌+◌, ◌<◌, ◌≤◌, List, [], ◌∷◌, ◌++◌, length, Option, Some, None, Bool, IsTrue, false, is_some, refl, sym, ◌∙◌, subst, arith, inl, inr, MatchOption, IfSome}, specs.Prelude.{slice_get, IsSomeAnd}, specs.Ordering.{nat_cmp, is_eq}, specs.declared.cmp.Ordering.{Ordering}, specs.declared.cmp.Ordering.TheVariants.{Less, Equal, Greater}, proofs.lemmas.Map.Lookups.{exact_unsigned}, specs.BTreeMap.{BTreeMap, get, Updates, is_at}, proofs.lemmas.Bool.{cases_lt, cases_eq, true≢false}, proofs.lemmas.Option.{same_Some, slice_get_within}}
use Rattle.plan_values.{specs.declared.plan.Plan.{Plan}, specs.declared.terminus.PlannedRecord.{PlannedRecord}}
use Rattle.net_tables.{specs.Repositories.{records_of}, proofs.Elements.{in_push}}
use Rattle.net_questions.{specs.Lint.{IsSensorRecord, HasEarlierSensor}, specs.Sensors.{IsLocatorOf, HasLocatorOf}, specs.declared.lints.record_index.RecordIndex.{RecordIndex}, specs.RecordIndexes.{IsOfRecord, IsFirst, AreFirst, IsRecordIndex, Notes, NotesAny}, proofs.Within.{record_within}}

-- ---- one number is noted

other_key : (k q : ℕ) → k ≢ q → is_at (nat_cmp k) q ≡ false
other_key k q other = by (nat_cmp k q) refl
  where
    by : (o : Ordering) → nat_cmp k q ≡ o → is_eq o ≡ false
    by Less e = refl
    by Equal e = absurd (other (exact_unsigned k q e))
    by Greater e = refl

pub notes_new : (old new : BTreeMap ℕ ℕ) (number at : ℕ) → get nat_cmp old number ≡ None → Updates nat_cmp old new number (Some at) → Notes old number at new
notes_new old new number at none updates =
    let P : Option ℕ → Type 0 = λ o. MatchOption o (get nat_cmp new number ≡ Some at) (λ had. get nat_cmp new number ≡ Some had) in
    record { here = subst P (sym none) updates.1; others = λ other apart. updates.2 other (other_key number other apart) }

-- ---- the records that were looked at

module _ (Is : List ℕ → ℕ → Type 0) (plan : Plan) (n : ℕ) where
  abbrev Has : ℕ → ℕ → Type 0
  Has j number = IsOfRecord Is plan n j number

  -- what is noted of a number after so many records
  abbrev IsFirstBelow : ℕ → ℕ → Option ℕ → Type 0
  IsFirstBelow count number None = (j : ℕ) → j < count → ¬ Has j number
  IsFirstBelow count number (Some i) = (i < count) × Has i number × ((j : ℕ) → j < i → ¬ Has j number)

  abbrev pub AreFirstBelow : ℕ → BTreeMap ℕ ℕ → Type 0
  AreFirstBelow count first = (number : ℕ) → IsFirstBelow count number (get nat_cmp first number)

  first_kept : (count number : ℕ) (o : Option ℕ) → ¬ Has count number → IsFirstBelow count number o → IsFirstBelow (count + 1) number o
  first_kept count number None not none = λ j lt has. elim (cases_lt j count) [
    | inl less ↦ none j less has
    | inr last ↦ (let same : j ≡ count = omega (arith, lt, last) in not (subst (λ k. Has k number) same has))
  ]
  first_kept count number (Some i) not (within, has, before) = (omega (arith, within), has, before)

  first_had : (count number i : ℕ) → IsFirstBelow count number (Some i) → IsFirstBelow (count + 1) number (Some i)
  first_had count number i (within, has, before) = (omega (arith, within), has, before)

  first_new : (count id : ℕ) (next o : Option ℕ) → Has count id → IsFirstBelow count id o → MatchOption o (next ≡ Some count) (λ had. next ≡ Some had) → IsFirstBelow (count + 1) id next
  first_new count id next None has none is = subst (IsFirstBelow (count + 1) id) (sym is) (omega arith, has, none)
  first_new count id next (Some i) has h is = subst (IsFirstBelow (count + 1) id) (sym is) (first_had count id i h)

  -- one record more
  pub first_more : (count : ℕ) (first next : BTreeMap ℕ ℕ) → AreFirstBelow count first → (r : Option ℕ) → IfSome r (Has count)
      → ((number : ℕ) → Has count number → IsSomeAnd r (λ found. found ≡ number)) → NotesAny first r count next → AreFirstBelow (count + 1) next
  first_more count first next below None has only same number =
      subst (λ (m : BTreeMap ℕ ℕ). IsFirstBelow (count + 1) number (get nat_cmp m number)) (sym same)
      (first_kept count number (get nat_cmp first number) (λ here. only number here) (below number))
  first_more count first next below (Some id) has only notes number = elim (cases_eq id number) [
    | inl same ↦ subst (λ k. IsFirstBelow (count + 1) k (get nat_cmp next k)) same (first_new count id (get nat_cmp next id) (get nat_cmp first id) has (below id) notes.here)
    | inr other ↦ subst (IsFirstBelow (count + 1) number) (sym (notes.others number other))
        (first_kept count number (get nat_cmp first number) (λ here. other (only number here)) (below number))
  ]

  -- of the record at a place
  pub record_more : (count : ℕ) (first next : BTreeMap ℕ ℕ) (x : PlannedRecord) (bytes : List ℕ) → AreFirstBelow count first → slice_get (records_of plan n) count ≡ Some x → bytes ≡ x.bytes.items
      → (r : Option ℕ) → IfSome r (Is bytes) → ((number : ℕ) → Is bytes number → IsSomeAnd r (λ found. found ≡ number)) → NotesAny first r count next → AreFirstBelow (count + 1) next
  record_more count first next x bytes below there same r found only notes =
      first_more count first next below r (found_there r found)
      (λ number (y, at, is). only number (subst (λ (b : List ℕ). Is b number) (sym same) (subst (λ (z : PlannedRecord). Is z.bytes.items number) (same_Some y x (sym at ∙ there)) is))) notes
    where
      found_there : (o : Option ℕ) → IfSome o (Is bytes) → IfSome o (Has count)
      found_there None h = tt
      found_there (Some id) h = (x, there, subst (λ (b : List ℕ). Is b id) same h)

  pub first_of_none : (first : BTreeMap ℕ ℕ) → ((number : ℕ) → get nat_cmp first number ≡ None) → AreFirstBelow 0 first
  first_of_none first none number = subst (IsFirstBelow 0 number) (sym (none number)) (λ j less has. absurd (omega (arith, less)))

  pub first_of_all : (count : ℕ) (first : BTreeMap ℕ ℕ) → length (records_of plan n) ≤ count → AreFirstBelow count first → AreFirst Is plan n first
  first_of_all count first long below number = by (get nat_cmp first number) (below number)
    where
      by : (o : Option ℕ) → IsFirstBelow count number o → IsFirst (λ j. IsOfRecord Is plan n j number) o
      by None none = λ j has. none j (omega (arith, long, slice_get_within (records_of plan n) j has.0 has.1)) has
      by (Some i) h = (h.1, h.2)

-- ---- what an index tells

module _ (plan : Plan) (n : ℕ) where
  pub earlier_by_first : (id j : ℕ) (o : Option ℕ) (b : Bool) → IsFirst (λ i. IsOfRecord IsSensorRecord plan n i id) o → IsTrue b ↔ IsSomeAnd o (λ at. at < j) → IsTrue b ↔ HasEarlierSensor plan n j id
  earlier_by_first id j None b none told = (λ h. absurd (told.0 h), λ (i, r, there, (less, is)). absurd (none i (r, there, is)))
  earlier_by_first id j (Some p) b ((r, there, is), before) told = (
    λ h. (p, r, there, (told.0 h, is)),
    λ (i, other, at, (less, sensor)). elim (cases_lt i p) [
      | inl earlier ↦ absurd (before i earlier (other, at, sensor))
      | inr later ↦ told.1 (omega (arith, less, later))
    ],
  )

  pub located_by_first : (handle : ℕ) (o : Option ℕ) (b : Bool) → IsFirst (λ i. IsOfRecord IsLocatorOf plan n i handle) o → b ≡ is_some o → IsTrue b ↔ HasLocatorOf plan n handle
  located_by_first handle None b none is = (λ h. absurd (true≢false (sym h ∙ is)), λ (j, r, there, at). absurd (none j (r, there, at)))
  located_by_first handle (Some p) b ((r, there, at), before) is = (λ h. (p, r, there, at), λ has. is)

  -- beyond the nodes
  pub none_earlier : (id j : ℕ) → length plan.nodes.items ≤ n → IsTrue false ↔ HasEarlierSensor plan n j id
  none_earlier id j past = (λ h. absurd (cc h), λ (i, r, there, (less, is)). absurd (omega (arith, past, record_within plan n i r there)))

  pub none_located : (handle : ℕ) → length plan.nodes.items ≤ n → IsTrue false ↔ HasLocatorOf plan n handle
  none_located handle past = (λ h. absurd (cc h), λ (j, r, there, at). absurd (omega (arith, past, record_within plan n j r there)))

-- one node more
pub indexes_more : (plan : Plan) (indexes : List RecordIndex) (index : RecordIndex) → ((n : ℕ) (x : RecordIndex) → slice_get indexes n ≡ Some x → IsRecordIndex plan n x)
    → IsRecordIndex plan (length indexes) index → (n : ℕ) (x : RecordIndex) → slice_get (indexes ++ index ∷ []) n ≡ Some x → IsRecordIndex plan n x
indexes_more plan indexes index each here n x is = elim (in_push indexes index n x is) [
  | inl old ↦ each n x old
  | inr last ↦ subst (IsRecordIndex plan n) last.1 (subst (λ k. IsRecordIndex plan k index) (sym last.0) here)
]
