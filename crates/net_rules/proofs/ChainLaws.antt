-- Chains of records, and why a bad one leaves no places.
use Rattle.std.{proofs.Common.{◌≡◌, ◌⊎◌, ℕ, ◌+◌, ◌-◌, ◌<◌, List, length, Some, get_or, sym, ◌∙◌, ap, arith, inl, inr}, specs.Prelude.{slice_get}, proofs.lemmas.Bool.{cases_order}, proofs.lemmas.Option.{same_Some, slice_get_within, get_or_from_slice_get}}
use Rattle.plan_values.specs.declared.terminus.PlannedRecord.{PlannedRecord}
use Rattle.net_rules.{specs.declared.certifying.chains.ChainFault.{ChainFault}, specs.declared.certifying.chains.ChainFault.TheVariants.{Missing, Doubled, Circle}, specs.Moves.{IsEnd}, specs.Circles.{EndsAfter, IsOnCircle}, specs.RecordChains.{HasNext, HasNewNext, IsFollowedBy, HaveNewHandles, IsBadChain, AreChained, AreLinked}, proofs.Circling.{no_circle_down}, proofs.Lines.{end_is_near, endless_circles, as_far}}
use Rattle.net_tables.proofs.Elements.{element}

pub next_same : (records : List PlannedRecord) (j : ℕ) (r other : PlannedRecord) → slice_get records j ≡ Some r → slice_get records j ≡ Some other → r.next ≡ other.next
next_same records j r other is is' = ap (λ (x : PlannedRecord). x.next) (same_Some r other (sym is ∙ is'))

pub handle_same : (records : List PlannedRecord) (j : ℕ) (r other : PlannedRecord) → slice_get records j ≡ Some r → slice_get records j ≡ Some other → r.handle ≡ other.handle
handle_same records j r other is is' = ap (λ (x : PlannedRecord). x.handle) (same_Some r other (sym is ∙ is'))

-- Records with handles of their own.
module _ (records : List PlannedRecord) (named : HaveNewHandles records) where
  -- a handle is one record's
  pub one_handle : (i j : ℕ) (r other : PlannedRecord) → slice_get records i ≡ Some r → slice_get records j ≡ Some other → r.handle ≡ other.handle → i ≡ j
  one_handle i j r other is is' same = elim (cases_order i j) [
    | inl here ↦ here
    | inr (inl less) ↦ absurd ((named j other is').1 i r less is same)
    | inr (inr more) ↦ absurd ((named i r is).1 j other more is' (sym same))
  ]

  pub one_follows : (n p q : ℕ) → IsFollowedBy records n p → IsFollowedBy records n q → p ≡ q
  one_follows n p q (r, a, is, at, same) (s, b, is', at', same') = one_handle p q a b at at' (sym same ∙ (next_same records n r s is is' ∙ same'))

  pub follows_within : (n p : ℕ) → IsFollowedBy records n p → p < length records
  follows_within n p (r, a, is, at, same) = slice_get_within records p a at

  -- nothing follows a record whose next handle is 0
  pub zero_ends : (j : ℕ) (r : PlannedRecord) → slice_get records j ≡ Some r → r.next ≡ 0 → IsEnd (IsFollowedBy records) j
  zero_ends j r is none p (s, a, is', at, same) = (named p a at).0 (sym same ∙ (next_same records j s r is' is ∙ none))

  -- Places along the chain.
  module _ (places : List ℕ) (chained : AreChained records places) where
    pub chained_has_next : (j : ℕ) (r : PlannedRecord) → slice_get records j ≡ Some r → HasNext records r
    chained_has_next j r is = elim (chained j r is).next [
      | inl (k, other, at, _, same) ↦ inr (k, other, at, same)
      | inr (_, none) ↦ inl none
    ]

    -- the place of the record that is followed by another is one less
    pub chained_step : (j k : ℕ) (r other : PlannedRecord) (is : slice_get records j ≡ Some r) → slice_get records k ≡ Some other → r.next ≡ other.handle → slice_get places k ≡ Some ((chained j r is).place + 1)
    chained_step j k r other is at same = elim (chained j r is).next [
      | inl (l, third, at', there, same') ↦ (
          let here : l ≡ k = one_handle l k third other at' at (sym same' ∙ same) in
          ap (λ x. slice_get places x) (sym here) ∙ there)
      | inr (_, none) ↦ absurd ((named k other at).0 (sym same ∙ none))
    ]

    pub chained_new_next : (j : ℕ) (r : PlannedRecord) → slice_get records j ≡ Some r → HasNewNext records j r
    chained_new_next j r is i other less is' same =
        let here = chained j r is in
        let there = chained i other is' in
        let apart = λ (e : there.place ≡ here.place). here.new i less (there.given ∙ ap Some e) in
        elim here.next [
          | inl (k, third, at, next, name) ↦ (
              let next' = chained_step i k other third is' at (same ∙ name) in
              let e : there.place + 1 ≡ here.place + 1 = same_Some (there.place + 1) (here.place + 1) (sym next' ∙ next) in
              apart (omega (arith, e)))
          | inr (last, none) ↦ elim there.next [
            | inl (k, third, at, next, name) ↦ (named k third at).0 (sym name ∙ (same ∙ none))
            | inr (last', _) ↦ apart (omega (arith, last, last'))
          ]
        ]

    pub chained_no_circle : (j : ℕ) → ¬ IsOnCircle (IsFollowedBy records) j
    chained_no_circle j = no_circle_down (IsFollowedBy records) (λ i. length records - get_or places i 0) (λ i k (r, other, is, at, same).
        let here = chained i r is in
        let next = chained_step i k r other is at same in
        let at_i = get_or_from_slice_get places i here.place 0 here.given in
        let at_k = get_or_from_slice_get places k (here.place + 1) 0 next in
        omega (arith, here.within, at_i, at_k)) j

-- A bad chain leaves no places.
pub bad_chain_breaks_places : (records : List PlannedRecord) (kind : ChainFault) (entry : ℕ) → HaveNewHandles records → IsBadChain records kind entry → (places : List ℕ) → ¬ AreChained records places
bad_chain_breaks_places records Missing j named bad places chained = bad.0 (λ r is. chained_has_next records named places chained j r is)
bad_chain_breaks_places records Doubled j named bad places chained = bad.1.0 (λ r is. chained_new_next records named places chained j r is)
bad_chain_breaks_places records Circle j named bad places chained = chained_no_circle records named places chained j bad.2.0

-- Records that are linked.
module _ (records : List PlannedRecord) (linked : AreLinked records) where
  -- a next handle is one record's
  pub one_next : (i j : ℕ) (r other : PlannedRecord) → slice_get records i ≡ Some r → slice_get records j ≡ Some other → r.next ≡ other.next → i ≡ j
  one_next i j r other is is' same = elim (cases_order i j) [
    | inl here ↦ here
    | inr (inl less) ↦ absurd (linked.apart j other is' i r less is same)
    | inr (inr more) ↦ absurd (linked.apart i r is j other more is' (sym same))
  ]

  pub one_before : (n m p : ℕ) → IsFollowedBy records n p → IsFollowedBy records m p → n ≡ m
  one_before n m p (r, a, is, at, same) (s, b, is', at', same') = one_next n m r s is is' (same ∙ (handle_same records p a b at at' ∙ sym same'))

  -- a record is followed, or its next handle is 0
  pub follows_or_ends : (n : ℕ) (r : PlannedRecord) → slice_get records n ≡ Some r → (r.next ≡ 0) ⊎ ((p : ℕ) × IsFollowedBy records n p)
  follows_or_ends n r is = elim (linked.nexts n r is) [
    | inl none ↦ inl none
    | inr (k, other, at, same) ↦ inr (k, (r, other, is, at, same))
  ]

  pub goes : (n : ℕ) → n < length records → IsEnd (IsFollowedBy records) n ⊎ ((p : ℕ) × IsFollowedBy records n p)
  goes n lt =
      let r = element records n lt in
      elim (follows_or_ends n r.0 r.1) [
        | inl none ↦ inl (zero_ends records linked.handles n r.0 r.1 none)
        | inr next ↦ inr next
      ]

  -- the next handle of a record that nothing follows is 0
  pub end_is_zero : (n : ℕ) (r : PlannedRecord) → slice_get records n ≡ Some r → IsEnd (IsFollowedBy records) n → r.next ≡ 0
  end_is_zero n r is ends = elim (follows_or_ends n r is) [ inl none ↦ none | inr (p, move) ↦ absurd (ends p move) ]

  one_end : (n m : ℕ) → n < length records → m < length records → IsEnd (IsFollowedBy records) n → IsEnd (IsFollowedBy records) m → n ≡ m
  one_end n m lt lt' ends ends' =
      let r = element records n lt in
      let other = element records m lt' in
      one_next n m r.0 other.0 r.1 other.1 (end_is_zero n r.0 r.1 ends ∙ sym (end_is_zero m other.0 other.1 ends'))

  pub as_far_is_one : (k n m : ℕ) → n < length records → m < length records → EndsAfter (IsFollowedBy records) n k → EndsAfter (IsFollowedBy records) m k → n ≡ m
  as_far_is_one = as_far (IsFollowedBy records) one_before (λ n. n < length records) (follows_within records linked.handles) one_end

  pub near_end : (n k : ℕ) → n < length records → EndsAfter (IsFollowedBy records) n k → k < length records
  near_end = end_is_near (IsFollowedBy records) (length records) (follows_within records linked.handles) (one_follows records linked.handles)

  pub without_end_circles : (n : ℕ) → n < length records → ((count : ℕ) → ¬ EndsAfter (IsFollowedBy records) n count) → IsOnCircle (IsFollowedBy records) n
  without_end_circles = endless_circles (IsFollowedBy records) one_before (length records) (follows_within records linked.handles) goes
