-- Sets of handles and places, and what is found in them.
use Rattle.std.{proofs.Common.{◌≡◌, ◌≢◌, ◌⊎◌, ◌↔◌, ℕ, suc, zero, ◌+◌, ◌<◌, Bool, true, false, not, cond, List, [], ◌∷◌, length, ◌≤◌, map, Option, Some, None, IsTrue, sym, refl, ap, ◌∙◌, subst, inl, inr, arith}, specs.Prelude.{slice_get, option_map}, specs.declared.cmp.Ordering.{Ordering}, specs.declared.cmp.Ordering.TheVariants.{Less, Equal, Greater}, specs.Ordering.{nat_cmp, is_eq, ordering_then}, specs.BTreeMap.{is_at}, specs.BTreeSet.{BTreeSet, contains, IsFromIterResult}, specs.Cmp.{IsTotalOrder}, proofs.lemmas.Cmp.{nat_cmp_total, on_total, then_total, tied_itself}, proofs.lemmas.Bool.{cases_lt}, proofs.lemmas.Option.{same_Some, slice_get-map, slice_get-get_or, slice_get_within, slice_get_past, get_or_from_slice_get}, proofs.lemmas.Map.Lookups.{CmpEqualImpliesEq, exact_unsigned}, proofs.lemmas.Map.Views.{tells_apart, btree_set_contains_from_list}}
use Rattle.plan_values.{specs.declared.terminus.PlannedRecord.{PlannedRecord}, specs.declared.certificate.RecordPlace.{RecordPlace}}
use Rattle.net_tables.specs.Repositories.{HasNewHandle, IsHandleAt, IsChained}
use Rattle.net_rules.specs.Handles.{by_place_and_handle, pairs}

-- the set has the numbers before place j of the list, and no others
abbrev pub HasBefore : List ℕ → ℕ → BTreeSet ℕ → Type 0
HasBefore xs j set = (x : ℕ) → IsTrue (contains nat_cmp set x) ↔ ((i : ℕ) × (i < j) × (slice_get xs i ≡ Some x))

pub has_one_more : (xs : List ℕ) (j x : ℕ) (old new : BTreeSet ℕ) → slice_get xs j ≡ Some x
    → ((q : ℕ) → contains nat_cmp new q ≡ cond (is_at (nat_cmp x) q) true (contains nat_cmp old q)) → HasBefore xs j old → HasBefore xs (j + 1) new
has_one_more xs j x old new is updates has q = by (is_at (nat_cmp x) q) refl (updates q)
  where
    by : (b : Bool) → is_at (nat_cmp x) q ≡ b → contains nat_cmp new q ≡ cond b true (contains nat_cmp old q)
        → IsTrue (contains nat_cmp new q) ↔ ((i : ℕ) × (i < j + 1) × (slice_get xs i ≡ Some q))
    by true same found = (λ _. (j, omega arith, is ∙ ap Some (tells_apart exact_unsigned x q same)), λ _. found)
    by false apart found = (
      λ here. let f = (has q).0 (sym found ∙ here) in (f.0, omega (arith, f.1), f.2),
      λ (i, less, at). elim (cases_lt i j) [
        | inl before ↦ found ∙ (has q).1 (i, before, at)
        | inr from ↦
            let here : i ≡ j = omega arith in
            let P : ℕ → Type 0 = λ k. slice_get xs k ≡ Some q in
            let one : x ≡ q = same_Some x q (sym is ∙ subst P here at) in
            let itself : is_at (nat_cmp x) q ≡ true = subst (λ (k : ℕ). is_at (nat_cmp x) k ≡ true) one (ap is_eq (tied_itself nat_cmp_total x)) in
            absurd (cc)
      ],
    )

-- the handles of records
abbrev pub handles_of : List PlannedRecord → List ℕ
handles_of records = map (λ r. r.handle) records

pub handle_of_record : (records : List PlannedRecord) (j : ℕ) (r : PlannedRecord) → slice_get records j ≡ Some r → slice_get (handles_of records) j ≡ Some r.handle
handle_of_record records j r is = slice_get-map (λ (x : PlannedRecord). x.handle) records j ∙ ap (option_map (λ (x : PlannedRecord). x.handle)) is

pub record_of_handle : (records : List PlannedRecord) (i h : ℕ) → slice_get (handles_of records) i ≡ Some h → (r : PlannedRecord) × (slice_get records i ≡ Some r) × (r.handle ≡ h)
record_of_handle records i h is = by (slice_get records i) refl (sym (slice_get-map (λ (x : PlannedRecord). x.handle) records i) ∙ is)
  where
    by : (o : Option PlannedRecord) → slice_get records i ≡ o → option_map (λ (x : PlannedRecord). x.handle) o ≡ Some h → (r : PlannedRecord) × (slice_get records i ≡ Some r) × (r.handle ≡ h)
    by None here at = absurd (cc)
    by (Some r) here at = (r, here, same_Some r.handle h at)

-- a number is added to a set that does not have it
pub missed : (b added : Bool) → added ≡ not b → added ≡ true → b ≡ false
missed true added told is = absurd (cc)
missed false added told is = refl

pub had : (b added : Bool) → added ≡ not b → added ≡ false → b ≡ true
had true added told is = refl
had false added told is = absurd (cc)

-- a handle that the set of the earlier ones does not have is new
pub is_new : (records : List PlannedRecord) (j : ℕ) (r : PlannedRecord) (set : BTreeSet ℕ) → HasBefore (handles_of records) j set → r.handle ≢ 0 → contains nat_cmp set r.handle ≡ false
    → HasNewHandle records j r
is_new records j r set has some missing = (
  some,
  λ i other less is same.
      let found = (has r.handle).1 (i, less, handle_of_record records i other is ∙ ap Some same) in
      absurd (cc),
)

-- one that is new is not 0, and the set does not have it
pub is_not_new : (records : List PlannedRecord) (j : ℕ) (r : PlannedRecord) (set : BTreeSet ℕ) → HasBefore (handles_of records) j set → ¬ ((r.handle ≢ 0) × (contains nat_cmp set r.handle ≡ false))
    → ¬ HasNewHandle records j r
is_not_new records j r set has old new = old (new.0, by (contains nat_cmp set r.handle) refl)
  where
    by : (b : Bool) → contains nat_cmp set r.handle ≡ b → contains nat_cmp set r.handle ≡ false
    by true found =
        let f = (has r.handle).0 found in
        let other = record_of_handle records f.0 r.handle f.2 in
        absurd (new.1 f.0 other.0 f.1 other.1 other.2)
    by false missing = missing

abbrev pub values : List RecordPlace → List ℕ
values places = map (λ p. p.value) places

handle_at_pair : (places : List RecordPlace) (records : List PlannedRecord) (k place handle : ℕ) → slice_get (pairs places records) k ≡ Some (place, handle)
    → (r : PlannedRecord) × (slice_get records k ≡ Some r) × (slice_get (values places) k ≡ Some place) × (handle ≡ r.handle)
handle_at_pair [] records k place handle is = absurd (cc)
handle_at_pair (p ∷ ps) [] k place handle is = absurd (cc)
handle_at_pair (p ∷ ps) (r ∷ rs) zero place handle is =
    let one : (p.value, r.handle) ≡ (place, handle) = same_Some (p.value, r.handle) (place, handle) is in
    (r, refl, ap (λ (x : ℕ × ℕ). Some x.0) one, sym (ap (λ (x : ℕ × ℕ). x.1) one))
handle_at_pair (p ∷ ps) (r ∷ rs) (suc k) place handle is = handle_at_pair ps rs k place handle is

pair_of_handle : (places : List RecordPlace) (records : List PlannedRecord) (k place : ℕ) (r : PlannedRecord) → slice_get records k ≡ Some r → slice_get (values places) k ≡ Some place
    → slice_get (pairs places records) k ≡ Some (place, r.handle)
pair_of_handle [] records k place r is given = absurd (cc)
pair_of_handle (p ∷ ps) [] k place r is given = absurd (cc)
pair_of_handle (p ∷ ps) (s ∷ rs) zero place r is given =
    let one : s ≡ r = same_Some s r is in
    let here : p.value ≡ place = same_Some p.value place given in
    cc
pair_of_handle (p ∷ ps) (s ∷ rs) (suc k) place r is given = pair_of_handle ps rs k place r is given

by_place_and_handle_total : IsTotalOrder by_place_and_handle
by_place_and_handle_total = then_total (on_total (λ (p : ℕ × ℕ). p.0) nat_cmp_total) (on_total (λ (p : ℕ × ℕ). p.1) nat_cmp_total)

-- pairs that the order does not tell apart are the same
same_pair : CmpEqualImpliesEq by_place_and_handle
same_pair p q equal = by (nat_cmp p.0 q.0) refl equal
  where
    by : (o : Ordering) → nat_cmp p.0 q.0 ≡ o → ordering_then o (nat_cmp p.1 q.1) ≡ Equal → p ≡ q
    by Less first h = absurd (cc)
    by Equal first h =
        let left : p.0 ≡ q.0 = exact_unsigned p.0 q.0 first in
        let right : p.1 ≡ q.1 = exact_unsigned p.1 q.1 h in
        ap (λ (k : ℕ). (k, p.1)) left ∙ ap (λ (k : ℕ). (q.0, k)) right
    by Greater first h = absurd (cc)

-- what the set of the pairs has
pub handle_found : (places : List RecordPlace) (records : List PlannedRecord) (set : BTreeSet (ℕ × ℕ)) → IsFromIterResult by_place_and_handle (pairs places records) set
    → (place handle : ℕ) → IsTrue (contains by_place_and_handle set (place, handle)) ↔ IsHandleAt records (values places) place handle
handle_found places records set made place handle =
    let found = btree_set_contains_from_list by_place_and_handle_total same_pair (pairs places records) set made (place, handle) in (
      λ h.
          let at = found.0 h in
          let is = slice_get-get_or (pairs places records) at.0 (place, handle) at.1 ∙ ap Some at.2 in
          let there = handle_at_pair places records at.0 place handle is in
          (at.0, there.0, there.1, there.2, there.3),
      λ (k, r, is, given, same).
          let pair : slice_get (pairs places records) k ≡ Some (place, handle) = pair_of_handle places records k place r is given ∙ ap (λ h. Some (place, h)) (sym same) in
          found.1 (k, slice_get_within (pairs places records) k (place, handle) pair, get_or_from_slice_get (pairs places records) k (place, handle) (place, handle) pair),
    )

pub value_of_place : (places : List RecordPlace) (j : ℕ) (p : RecordPlace) → slice_get places j ≡ Some p → slice_get (values places) j ≡ Some p.value
value_of_place places j p is = slice_get-map (λ (x : RecordPlace). x.value) places j ∙ ap (option_map (λ (x : RecordPlace). x.value)) is

-- the next handle of a record of a place is that of one at the place after it, by the set, or 0 after the last place
abbrev pub LeadsOn : ℕ → BTreeSet (ℕ × ℕ) → ℕ → ℕ → Type 0
LeadsOn count handles place next = (place < count) × (IsTrue (contains by_place_and_handle handles (place + 1, next)) ⊎ ((place + 1 ≡ count) × (next ≡ 0)))

module _ (records : List PlannedRecord) (places : List RecordPlace) (handles : BTreeSet (ℕ × ℕ)) (made : IsFromIterResult by_place_and_handle (pairs places records) handles) where
  pub is_chained : (j : ℕ) (r : PlannedRecord) (p : RecordPlace) (taken : BTreeSet ℕ) → slice_get places j ≡ Some p → HasBefore (values places) j taken → contains nat_cmp taken p.value ≡ false
      → LeadsOn (length records) handles p.value r.next → IsChained records (values places) j r
  is_chained j r p taken is has missing leads = record {
    place = p.value;
    given = value_of_place places j p is;
    within = leads.0;
    new = λ i less there. let found = (has p.value).1 (i, less, there) in absurd (cc);
    next = elim leads.1 [ inl found ↦ inl ((handle_found places records handles made (p.value + 1) r.next).0 found) | inr last ↦ inr last ];
  }

  pub not_given : (j : ℕ) (r : PlannedRecord) → length places ≤ j → ¬ IsChained records (values places) j r
  not_given j r past chained =
      let none = slice_get-map (λ (x : RecordPlace). x.value) places j ∙ ap (option_map (λ (x : RecordPlace). x.value)) (slice_get_past places j past) in
      let some = chained.given in
      absurd (cc)

  pub not_new : (j : ℕ) (r : PlannedRecord) (p : RecordPlace) (taken : BTreeSet ℕ) → slice_get places j ≡ Some p → HasBefore (values places) j taken → contains nat_cmp taken p.value ≡ true
      → ¬ IsChained records (values places) j r
  not_new j r p taken is has found chained =
      let f = (has p.value).0 found in
      let same : chained.place ≡ p.value = same_Some chained.place p.value (sym chained.given ∙ value_of_place places j p is) in
      chained.new f.0 f.1 (f.2 ∙ ap Some (sym same))

  pub not_led_on : (j : ℕ) (r : PlannedRecord) (p : RecordPlace) → slice_get places j ≡ Some p → ¬ LeadsOn (length records) handles p.value r.next → ¬ IsChained records (values places) j r
  not_led_on j r p is not chained =
      let same : chained.place ≡ p.value = same_Some chained.place p.value (sym chained.given ∙ value_of_place places j p is) in
      let within = chained.within in
      let N : ℕ → Type 0 = λ place. IsHandleAt records (values places) (place + 1) r.next ⊎ ((place + 1 ≡ length records) × (r.next ≡ 0)) in
      let next : N p.value = subst N same chained.next in
      not (omega arith, elim next [ inl at ↦ inl ((handle_found places records handles made (p.value + 1) r.next).1 at) | inr last ↦ inr last ])
