-- Places given from the end of a chain on.
use Rattle.std.{proofs.Common.{◌≡◌, ◌≢◌, ℕ, zero, suc, ◌+◌, ◌-◌, ◌<◌, List, [], ◌∷◌, ◌++◌, length, map, Option, Some, None, sym, ◌∙◌, ap, refl, arith, subst, inl, inr, slice_set, replicate, MatchOption, IsTrue, ◌↔◌, nat_eq}, specs.Prelude.{slice_get, option_map, is_some}, proofs.lemmas.Bool.{cases_lt, cases_order, eqb-true, eq-eqb, false≢true}, proofs.lemmas.Option.{same_Some, none-some, slice_get-map, slice_get_within}, proofs.lemmas.List.{length-map, length-set, length_push}}
use Rattle.plan_values.{specs.declared.terminus.PlannedRecord.{PlannedRecord}, specs.declared.certificate.RecordPlace.{RecordPlace}}
use Rattle.net_rules.{specs.declared.certifying.handle_index.HandleIndex.{HandleIndex}, specs.Moves.{IsEnd}, specs.Circles.{EndsAfter, IsLeastOnCircle}, specs.RecordChains.{HasNext, HasNewNext, IsFollowedBy, ArePlaces, found_in, IsIndexOf, IsFirstIndexOf, AreLinked, AreFromTheEnd}, proofs.Circling.{one_less, circle_never_ends, ends_once, spot, spot_parts}, proofs.Lines.{lands_within}, proofs.ChainLaws.{next_same, handle_same, one_follows, follows_within, zero_ends, one_next, follows_or_ends, end_is_zero, as_far_is_one, near_end, without_end_circles}}
use Rattle.net_tables.{specs.Routing.{OfItem}, specs.Repositories.{IsChained}, proofs.Elements.{element, in_set, in_push}}

pub none_placed : (n j : ℕ) (o : Option ℕ) → slice_get (replicate n None) j ≡ Some o → o ≡ None
none_placed zero j o is = absurd (none-some o is)
none_placed (suc n) zero o is = sym (same_Some None o is)
none_placed (suc n) (suc j) o is = none_placed n j o is

-- Places given to the records that are fewer than so many moves from the end; the next to get one are those with the
-- next handle.
pub record AreFromTheEndBelow (records : List PlannedRecord) (count next : ℕ) (places : List (Option ℕ)) : Type 0 where
  pub long : length places ≡ length records
  pub given : (j place : ℕ) → slice_get places j ≡ Some (Some place) → (d : ℕ) × (place + 1 + d ≡ length records) × EndsAfter (IsFollowedBy records) j d
  pub all : (j d : ℕ) → d < count → EndsAfter (IsFollowedBy records) j d → slice_get places j ≢ Some None
  pub next_ends : (j : ℕ) (r : PlannedRecord) → slice_get records j ≡ Some r → r.next ≡ next → EndsAfter (IsFollowedBy records) j count
  pub ends_next : (j : ℕ) (r : PlannedRecord) → slice_get records j ≡ Some r → EndsAfter (IsFollowedBy records) j count → r.next ≡ next

module _ (records : List PlannedRecord) (linked : AreLinked records) where
  pub none_given : AreFromTheEndBelow records 0 0 (replicate (length records) None)
  none_given = record {
    long = by_length (length records);
    given = λ j place is. absurd (none-some place (sym (none_placed (length records) j (Some place) is)));
    all = λ j d lt. absurd (omega arith);
    next_ends = λ j r is none. (j, refl, zero_ends records linked.handles j r is none);
    ends_next = λ j r is (m, same, ends). end_is_zero records linked j r is (subst (λ x. IsEnd (IsFollowedBy records) x) (sym same) ends);
  }
    where
      by_length : (n : ℕ) → length (replicate n (let none : Option ℕ = None in none)) ≡ n
      by_length zero = refl
      by_length (suc n) = ap suc (by_length n)

  module _ (count next : ℕ) (places : List (Option ℕ)) (below : AreFromTheEndBelow records count next places) where
    -- the record with the next handle gets its place
    module _ (at place : ℕ) (r : PlannedRecord) (is : slice_get records at ≡ Some r) (named : r.next ≡ next) (left : place + 1 + count ≡ length records) where
      at_within : at < length places
      at_within = omega (arith, slice_get_within records at r is, below.long)

      given_more : (j p : ℕ) → slice_get (slice_set places at (Some place)) j ≡ Some (Some p) → (d : ℕ) × (p + 1 + d ≡ length records) × EndsAfter (IsFollowedBy records) j d
      given_more j p there = elim (in_set places (Some place) at j (Some p) at_within there) [
        | inl (_, old) ↦ below.given j p old
        | inr (here, new) ↦ (
            let same : place ≡ p = same_Some place p new in
            (count, omega (arith, left, same), subst (λ k. EndsAfter (IsFollowedBy records) k count) (sym here) (below.next_ends at r is named)))
      ]

      all_more : (j d : ℕ) → d < count + 1 → EndsAfter (IsFollowedBy records) j d → slice_get (slice_set places at (Some place)) j ≢ Some None
      all_more j d lt ends there = elim (in_set places (Some place) at j None at_within there) [
        | inr (_, new) ↦ none-some place (sym new)
        | inl (other, old) ↦ elim (cases_lt d count) [
          | inl less ↦ below.all j d less ends old
          | inr last ↦ (
              let same : d ≡ count = omega arith in
              let lt' : j < length records = omega (arith, slice_get_within places j None old, below.long) in
              let s = element records j lt' in
              let far : EndsAfter (IsFollowedBy records) j count = subst (λ k. EndsAfter (IsFollowedBy records) j k) same ends in
              other (one_next records linked j at s.0 r s.1 is (below.ends_next j s.0 s.1 far ∙ sym named)))
        ]
      ]

      pub one_given : AreFromTheEndBelow records (count + 1) r.handle (slice_set places at (Some place))
      one_given = record {
        long = length-set places at (Some place) ∙ below.long;
        given = given_more;
        all = all_more;
        next_ends = λ j s there name.
            let ends = below.next_ends at r is named in
            let more : EndsAfter (IsFollowedBy records) j (suc count) = (ends.0, (at, (s, r, there, is, name), ends.1), ends.2) in
            let P : ℕ → Type 0 = λ k. EndsAfter (IsFollowedBy records) j k in
            let same : suc count ≡ count + 1 = omega arith in
            subst P same more;
        ends_next = λ j s there ends.
            let P : ℕ → Type 0 = λ k. EndsAfter (IsFollowedBy records) j k in
            let same : count + 1 ≡ suc count = omega arith in
            ends_before j s there (subst P same ends);
      }
        where
          ends_before : (j : ℕ) (s : PlannedRecord) → slice_get records j ≡ Some s → EndsAfter (IsFollowedBy records) j (suc count) → s.next ≡ r.handle
          ends_before j s there (m, (p, (a, b, is_a, is_b, name), way), ends) =
              let to : p ≡ at = one_next records linked p at b r is_b is (below.ends_next p b is_b (m, way, ends) ∙ sym named) in
              next_same records j s a there is_a ∙ (name ∙ handle_same records at b r (ap (λ k. slice_get records k) (sym to) ∙ is_b) is)

    -- no record has the next handle
    pub given_all : ((i : ℕ) (r : PlannedRecord) → slice_get records i ≡ Some r → r.next ≢ next) → AreFromTheEnd records places
    given_all none = record {
      long = below.long;
      given = below.given;
      left = λ j d there ends. elim (cases_lt d count) [
        | inl less ↦ below.all j d less ends there
        | inr far ↦ (
            let lt : j < length records = omega (arith, slice_get_within places j None there, below.long) in
            let x = spot (IsFollowedBy records) j d ends.0 ends.1 (d - count) in
            let parts = spot_parts (IsFollowedBy records) j d ends.0 ends.1 (d - count) count (omega arith) in
            let s = element records x (lands_within (IsFollowedBy records) (length records) (follows_within records linked.handles) j (d - count) x lt parts.0) in
            none x s.0 s.1 (below.ends_next x s.0 s.1 (ends.0, parts.1, ends.2)))
      ];
    }

    -- as many places are given as there are records
    pub given_enough : count ≡ length records → AreFromTheEnd records places
    given_enough enough = record {
      long = below.long;
      given = below.given;
      left = λ j d there ends. below.all j d (omega (arith, enough, near_end records linked j d (omega (arith, slice_get_within places j None there, below.long)) ends)) ends there;
    }

-- The places of the records looked at so far.
pub record AreAllSoFar (places : List (Option ℕ)) (count : ℕ) (all : List RecordPlace) : Type 0 where
  pub long : length all ≡ count
  pub same : (j : ℕ) (p : RecordPlace) → slice_get all j ≡ Some p → slice_get places j ≡ Some (Some p.value)

pub one_so_far : (places : List (Option ℕ)) (count : ℕ) (all : List RecordPlace) (p : RecordPlace) → AreAllSoFar places count all → slice_get places count ≡ Some (Some p.value) → AreAllSoFar places (count + 1) (all ++ p ∷ [])
one_so_far places count all p so_far is = record {
  long = omega (arith, length_push all p, so_far.long);
  same = λ j q there. elim (in_push all p j q there) [
    | inl old ↦ so_far.same j q old
    | inr (last, new) ↦ (
        let here : count ≡ j = omega (arith, last, so_far.long) in
        ap (λ k. slice_get places k) (sym here) ∙ (is ∙ ap (λ (x : RecordPlace). Some (Some x.value)) new))
  ];
}

module _ (records : List PlannedRecord) (linked : AreLinked records) (places : List (Option ℕ)) (from : AreFromTheEnd records places) where
  -- the first record without a place is the first on a circle
  pub first_left_circles : (j : ℕ) (all : List RecordPlace) → AreAllSoFar places j all → slice_get places j ≡ Some None → IsLeastOnCircle (IsFollowedBy records) j
  first_left_circles j all so_far none = (
    without_end_circles records linked j (omega (arith, slice_get_within places j None none, from.long)) (λ d. from.left j d none),
    λ n circle. elim (cases_lt n j) [
      | inr le ↦ le
      | inl less ↦ (
          let p = element all n (omega (arith, less, so_far.long)) in
          let ends = from.given n p.0.value (so_far.same n p.0 p.1) in
          absurd (circle_never_ends (IsFollowedBy records) (one_follows records linked.handles) n ends.0 ends.2.0 circle ends.2.1 ends.2.2))
    ],
  )

  module _ (all : List RecordPlace) (so_far : AreAllSoFar places (length places) all) where
    value_at : (j : ℕ) → j < length records → (place : ℕ) × (slice_get (map (λ (p : RecordPlace). p.value) all) j ≡ Some place) × (slice_get places j ≡ Some (Some place))
    value_at j lt =
        let p = element all j (omega (arith, lt, so_far.long, from.long)) in
        (p.0.value, slice_get-map (λ (q : RecordPlace). q.value) all j ∙ ap (λ (o : Option RecordPlace). option_map (λ (q : RecordPlace). q.value) o) p.1, so_far.same j p.0 p.1)

    all_chained : (j : ℕ) (r : PlannedRecord) → slice_get records j ≡ Some r → IsChained records (map (λ (p : RecordPlace). p.value) all) j r
    all_chained j r is =
        let lt = slice_get_within records j r is in
        let here = value_at j lt in
        let ends = from.given j here.0 here.2 in
        record {
          place = here.0;
          given = here.1;
          within = omega (arith, ends.1);
          new = λ i less there.
              let lt' : i < length records = omega (arith, less, lt) in
              let other = value_at i lt' in
              let same : other.0 ≡ here.0 = same_Some other.0 here.0 (sym other.1 ∙ there) in
              let ends' = from.given i other.0 other.2 in
              let far : ends'.0 ≡ ends.0 = omega (arith, ends.1, ends'.1, same) in
              let one : i ≡ j = as_far_is_one records linked ends.0 i j lt' lt (subst (λ k. EndsAfter (IsFollowedBy records) i k) far ends'.2) ends.2 in
              let no : ⊥ = omega (arith, one, less) in
              no;
          next = elim (follows_or_ends records linked j r is) [
            | inl none ↦ (
                let last : ends.0 ≡ 0 = ends_once (IsFollowedBy records) (one_follows records linked.handles) j ends.0 0 ends.2 (j, refl, zero_ends records linked.handles j r is none) in
                inr (omega (arith, last, ends.1), none))
            | inr (k, (s, other, is_s, at, name)) ↦ (
                let lt' = slice_get_within records k other at in
                let there = value_at k lt' in
                let ends' = from.given k there.0 there.2 in
                let less = one_less (IsFollowedBy records) (one_follows records linked.handles) j k ends.0 ends'.0 (s, other, is_s, at, name) ends.2 ends'.2 in
                let same : there.0 ≡ here.0 + 1 = omega (arith, less, ends.1, ends'.1) in
                inl (k, other, at, there.1 ∙ ap Some same, next_same records j r s is is_s ∙ name))
          ];
        }

    pub all_are_places : ArePlaces records (map (λ (p : RecordPlace). p.value) all)
    all_are_places = (length-map all (λ (p : RecordPlace). p.value) ∙ (so_far.long ∙ from.long), all_chained)

-- what the index of records by a number says
module _ (f : PlannedRecord → ℕ) (records : List PlannedRecord) where
  mapped : (k key : ℕ) → slice_get (map f records) k ≡ Some key → (r : PlannedRecord) × (slice_get records k ≡ Some r) × (f r ≡ key)
  mapped k key is =
      let r = element records k (omega (arith, slice_get_within (map f records) k key is, length-map records f)) in
      (r.0, r.1, same_Some (f r.0) key (sym (slice_get-map f records k ∙ ap (λ (o : Option PlannedRecord). option_map f o) r.1) ∙ is))

  unmapped : (k : ℕ) (r : PlannedRecord) → slice_get records k ≡ Some r → slice_get (map f records) k ≡ Some (f r)
  unmapped k r is = slice_get-map f records k ∙ ap (λ (o : Option PlannedRecord). option_map f o) is

  module _ (index : HandleIndex) (indexed : IsIndexOf (map f records) index) (key : ℕ) where
    pub index_some : (k : ℕ) → found_in index key ≡ Some k → (r : PlannedRecord) × (slice_get records k ≡ Some r) × (f r ≡ key) × ((i : ℕ) (other : PlannedRecord) → i < k → slice_get records i ≡ Some other → f other ≢ key)
    index_some k found =
        let P : Option ℕ → Type 0 = λ o. MatchOption o ((i : ℕ) → slice_get (map f records) i ≢ Some key) (IsFirstIndexOf (map f records) key) in
        let first = subst P found (indexed key) in
        let r = mapped k key first.0 in
        (r.0, r.1, r.2, λ i other less is same. first.1 i less (unmapped i other is ∙ ap Some same))

    pub index_none : found_in index key ≡ None → (i : ℕ) (other : PlannedRecord) → slice_get records i ≡ Some other → f other ≢ key
    index_none found i other is same =
        let P : Option ℕ → Type 0 = λ o. MatchOption o ((i : ℕ) → slice_get (map f records) i ≢ Some key) (IsFirstIndexOf (map f records) key) in
        subst P found (indexed key) i (unmapped i other is ∙ ap Some same)

pub has_next_tells : (records : List PlannedRecord) (j : ℕ) (r : PlannedRecord) (index : HandleIndex) → slice_get records j ≡ Some r → IsIndexOf (map (λ (x : PlannedRecord). x.handle) records) index → r.next ≢ 0
    → (o : Option ℕ) → o ≡ found_in index r.next → IsTrue (is_some o) ↔ OfItem records j (HasNext records)
has_next_tells records j r index is indexed some None found = (
  λ e. absurd (false≢true e),
  λ has. absurd (elim (has r is) [
    | inl none ↦ some none
    | inr (k, other, at, same) ↦ index_none (λ (x : PlannedRecord). x.handle) records index indexed r.next (sym found) k other at (sym same)
  ]),
)
has_next_tells records j r index is indexed some (Some k) found =
    let named = index_some (λ (x : PlannedRecord). x.handle) records index indexed r.next k (sym found) in
    (λ _ item is'. inr (k, named.0, named.1, next_same records j item r is' is ∙ sym named.2), λ _. refl)

pub first_next_tells : (records : List PlannedRecord) (j : ℕ) (r : PlannedRecord) (index : HandleIndex) → slice_get records j ≡ Some r → IsIndexOf (map (λ (x : PlannedRecord). x.next) records) index
    → (first : ℕ) → Some first ≡ found_in index r.next → IsTrue (nat_eq first j) ↔ OfItem records j (HasNewNext records j)
first_next_tells records j r index is indexed first found =
    let named = index_some (λ (x : PlannedRecord). x.next) records index indexed r.next first (sym found) in (
      λ e item is' i other less at same.
          let here : first ≡ j = eqb-true first j e in
          named.3 i other (omega (arith, here, less)) at (same ∙ next_same records j item r is' is),
      λ new. elim (cases_order first j) [
        | inl here ↦ eq-eqb first j here
        | inr (inl less) ↦ absurd (new r is first named.0 less named.1 named.2)
        | inr (inr more) ↦ absurd (named.3 j r more is refl)
      ],
    )

pub no_next_is_none : (records : List PlannedRecord) (j : ℕ) (r : PlannedRecord) (index : HandleIndex) → slice_get records j ≡ Some r → IsIndexOf (map (λ (x : PlannedRecord). x.next) records) index → None ≡ found_in index r.next → ⊥
no_next_is_none records j r index is indexed found = index_none (λ (x : PlannedRecord). x.next) records index indexed r.next (sym found) j r is refl
