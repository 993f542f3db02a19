-- Records by their handles, and back along their next handles.
use Rattle.std.{proofs.Common.{◌≡◌, ◌≢◌, ℕ, zero, suc, ◌<◌, List, length, map, Option, Some, None, true, false, refl, sym, ◌∙◌, ap, subst, arith, inl, inr, ◌↔◌, IsTrue, MatchOption, nat_eq}, specs.Prelude.{slice_get, is_some, option_map, option_and_then}, proofs.lemmas.Bool.{cases_order, eqb-true, eq-eqb, false≢true}, proofs.lemmas.List.{length-map}, proofs.lemmas.Option.{same_Some, slice_get_within, slice_get-map}}
use Rattle.plan_values.specs.declared.terminus.PlannedRecord.{PlannedRecord}
use Rattle.net_tables.{specs.Routing.{OfItem}, proofs.Elements.{element}}
use Rattle.net_rules.{specs.Moves.{Leads}, specs.Circles.{MovesBy, HasNoCircle, IsOnCircle, IsLeastOnCircle}, specs.Search.{IsFirstItem}, specs.RecordChains.{HasNext, HasNewNext, IsFirstIndexOf, IsFollowedBy}, specs.declared.certifying.chains.ChainFault.TheVariants.{Missing, Doubled, Circle}, proofs.Circling.{one_more, table_within}, proofs.ChainLaws.{next_same}}
use Rattle.net_faults.{specs.declared.key_index.KeyIndex.{KeyIndex}, specs.Chains.{IsChainFault, IsIndexOf, found_in}}

-- what the index of records by a number says
module _ (f : PlannedRecord → ℕ) (records : List PlannedRecord) where
  mapped : (k key : ℕ) → slice_get (map f records) k ≡ Some key → (r : PlannedRecord) × (slice_get records k ≡ Some r) × (f r ≡ key)
  mapped k key is =
      let r = element records k (omega (arith, slice_get_within (map f records) k key is, length-map records f)) in
      (r.0, r.1, same_Some (f r.0) key (sym (slice_get-map f records k ∙ ap (λ (o : Option PlannedRecord). option_map f o) r.1) ∙ is))

  unmapped : (k : ℕ) (r : PlannedRecord) → slice_get records k ≡ Some r → slice_get (map f records) k ≡ Some (f r)
  unmapped k r is = slice_get-map f records k ∙ ap (λ (o : Option PlannedRecord). option_map f o) is

  module _ (index : KeyIndex) (indexed : IsIndexOf (map f records) index) (key : ℕ) where
    abbrev Says : Option ℕ → Type 0
    Says o = MatchOption o ((i : ℕ) → slice_get (map f records) i ≢ Some key) (IsFirstIndexOf (map f records) key)

    pub index_some : (k : ℕ) → found_in index key ≡ Some k
        → (r : PlannedRecord) × (slice_get records k ≡ Some r) × (f r ≡ key) × ((i : ℕ) (other : PlannedRecord) → i < k → slice_get records i ≡ Some other → f other ≢ key)
    index_some k found =
        let first : Says (Some k) = subst Says found (indexed key) in
        let r = mapped k key first.0 in
        (r.0, r.1, r.2, λ i other less is same. first.1 i less (unmapped i other is ∙ ap Some same))

    pub index_none : found_in index key ≡ None → (i : ℕ) (other : PlannedRecord) → slice_get records i ≡ Some other → f other ≢ key
    index_none found i other is same =
        let none : Says None = subst Says found (indexed key) in
        none i (unmapped i other is ∙ ap Some same)

pub has_next_tells : (records : List PlannedRecord) (j : ℕ) (r : PlannedRecord) (index : KeyIndex) → slice_get records j ≡ Some r → IsIndexOf (map (λ (x : PlannedRecord). x.handle) records) index → r.next ≢ 0
    → (o : Option ℕ) → o ≡ found_in index r.next → IsTrue (is_some o) ↔ OfItem records j (HasNext records)
has_next_tells records j r index is indexed some None found = (
  λ e. absurd (false≢true e),
  λ has. absurd (elim (has r is) [
    | inl none ↦ some none
    | inr (k, other, at, same) ↦ index_none (λ (x : PlannedRecord). x.handle) records index indexed r.next (sym found) k other at (sym same)
  ]),
)
has_next_tells records j r index is indexed some (Some k) found =
    let named = index_some (λ (x : PlannedRecord). x.handle) records index indexed r.next k (sym found) in
    (λ _ item is'. inr (k, named.0, named.1, next_same records j item r is' is ∙ sym named.2), λ _. refl)

pub first_next_tells : (records : List PlannedRecord) (j : ℕ) (r : PlannedRecord) (index : KeyIndex) → slice_get records j ≡ Some r → IsIndexOf (map (λ (x : PlannedRecord). x.next) records) index
    → (first : ℕ) → Some first ≡ found_in index r.next → IsTrue (nat_eq first j) ↔ OfItem records j (HasNewNext records j)
first_next_tells records j r index is indexed first found =
    let named = index_some (λ (x : PlannedRecord). x.next) records index indexed r.next first (sym found) in (
      λ e item is' i other less at same.
          let here : first ≡ j = eqb-true first j e in
          named.3 i other (omega (arith, here, less)) at (same ∙ next_same records j item r is' is),
      λ new. elim (cases_order first j) [
        | inl here ↦ eq-eqb first j here
        | inr (inl less) ↦ absurd (new r is first named.0 less named.1 named.2)
        | inr (inr more) ↦ absurd (named.3 j r more is refl)
      ],
    )

pub no_next_is_none : (records : List PlannedRecord) (j : ℕ) (r : PlannedRecord) (index : KeyIndex) → slice_get records j ≡ Some r → IsIndexOf (map (λ (x : PlannedRecord). x.next) records) index → None ≡ found_in index r.next → ⊥
no_next_is_none records j r index is indexed found = index_none (λ (x : PlannedRecord). x.next) records index indexed r.next (sym found) j r is refl

-- ---- back along the next handles

-- ways of moves are ways back of the moves back
pub turned : (Move Back : ℕ → ℕ → Type 0) → ((n m : ℕ) → Move n m → Back m n) → (n k m : ℕ) → Leads Move n k m → Leads Back m k n
turned Move Back to n zero m way = sym way
turned Move Back to n (suc k) m (p, move, rest) = one_more Back m k p n (turned Move Back to p k m rest) (to n p move)

module _ (records : List PlannedRecord) (nexts : KeyIndex) (indexed : IsIndexOf (map (λ (x : PlannedRecord). x.next) records) nexts)
    (apart : IsFirstItem records (HasNewNext records) None) (before : List (Option ℕ)) (are : before ≡ map (λ (r : PlannedRecord). found_in nexts r.handle) records) where
  Back : ℕ → ℕ → Type 0
  Back k j = IsFollowedBy records j k

  -- the record before one, as it is found
  found_before : (k : ℕ) (r : PlannedRecord) → slice_get records k ≡ Some r → slice_get before k ≡ Some (found_in nexts r.handle)
  found_before k r is =
      ap (λ (table : List (Option ℕ)). slice_get table k) are
      ∙ (slice_get-map (λ (x : PlannedRecord). found_in nexts x.handle) records k ∙ ap (λ (o : Option PlannedRecord). option_map (λ (x : PlannedRecord). found_in nexts x.handle) o) is)

  moved : (k j : ℕ) (r : PlannedRecord) → slice_get records k ≡ Some r → MovesBy before k j → found_in nexts r.handle ≡ Some j
  moved k j r is move = sym (ap (λ (o : Option (Option ℕ)). option_and_then (λ next. next) o) (found_before k r is)) ∙ move

  before_to : (k j : ℕ) → MovesBy before k j → IsFollowedBy records j k
  before_to k j move =
      let long : length before ≡ length records = ap (λ (table : List (Option ℕ)). length table) are ∙ length-map records (λ (x : PlannedRecord). found_in nexts x.handle) in
      let r = element records k (omega (arith, long, table_within before k j move)) in
      let s = index_some (λ (x : PlannedRecord). x.next) records nexts indexed r.0.handle j (moved k j r.0 r.1 move) in
      (s.0, r.0, s.1, r.1, s.2)

  before_from : (k j : ℕ) → IsFollowedBy records j k → MovesBy before k j
  before_from k j (s, r, is_s, is_r, named) = by (found_in nexts r.handle) refl
    where
      by : (o : Option ℕ) → found_in nexts r.handle ≡ o → MovesBy before k j
      by None e = absurd (index_none (λ (x : PlannedRecord). x.next) records nexts indexed r.handle e j s is_s named)
      by (Some i) e =
          let first = index_some (λ (x : PlannedRecord). x.next) records nexts indexed r.handle i e in
          let here : i ≡ j = elim (cases_order i j) [
            | inl same ↦ same
            | inr (inl less) ↦ absurd (apart j s is_s i first.0 less first.1 (first.2 ∙ sym named))
            | inr (inr more) ↦ absurd (first.3 j s more is_s named)
          ] in
          ap (λ (o : Option (Option ℕ)). option_and_then (λ next. next) o) (found_before k r is_r) ∙ (e ∙ ap Some here)

  circle_to : (n : ℕ) → IsOnCircle (MovesBy before) n → IsOnCircle (IsFollowedBy records) n
  circle_to n circle = (circle.0, turned (MovesBy before) (IsFollowedBy records) (λ k j move. before_to k j move) n (suc circle.0) n circle.1)

  circle_from : (n : ℕ) → IsOnCircle (IsFollowedBy records) n → IsOnCircle (MovesBy before) n
  circle_from n circle = (circle.0, turned (IsFollowedBy records) (MovesBy before) (λ j k follows. before_from k j follows) n (suc circle.0) n circle.1)

  pub none_circles : HasNoCircle (MovesBy before) → HasNoCircle (IsFollowedBy records)
  none_circles none n circle = none n (circle_from n circle)

  pub circles_there : (found : Option ℕ) → MatchOption found (HasNoCircle (MovesBy before)) (IsLeastOnCircle (MovesBy before))
      → MatchOption found (HasNoCircle (IsFollowedBy records)) (IsLeastOnCircle (IsFollowedBy records))
  circles_there None none = none_circles none
  circles_there (Some n) least = (circle_to n least.0, λ m circle. least.1 m (circle_from m circle))

-- nothing is wrong where nothing of each kind is
pub nothing_wrong : (records : List PlannedRecord) → IsFirstItem records (λ _ r. HasNext records r) None → IsFirstItem records (HasNewNext records) None → HasNoCircle (IsFollowedBy records) → IsChainFault records None
nothing_wrong records nexts apart none Missing entry bad = bad.0 (nexts entry)
nothing_wrong records nexts apart none Doubled entry bad = bad.1.0 (apart entry)
nothing_wrong records nexts apart none Circle entry bad = none entry bad.2.0
