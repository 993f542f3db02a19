-- Moves that make one line: at most one move into each place, and one end.
use Rattle.std.{proofs.Common.{◌≡◌, ℕ, zero, suc, ◌+◌, ◌-◌, ◌<◌, ◌≤◌, ◌⊎◌, inl, inr, arith, refl, subst, sym, ◌∙◌}, proofs.lemmas.Bool.{cases_lt}}
use Rattle.net_rules.{specs.Moves.{Leads, IsEnd}, specs.Circles.{EndsAfter, IsOnCircle}, proofs.Pigeons.{pigeons}, proofs.Circling.{spot, spot_parts, spot_between, circle_never_ends, one_more}}

-- Every move stays among so many places.
module _ (Move : ℕ → ℕ → Type 0) (places : ℕ) (into : (n p : ℕ) → Move n p → p < places) where
  pub lands_within : (n k m : ℕ) → n < places → Leads Move n k m → m < places
  lands_within n zero m lt way = subst (λ x. x < places) way lt
  lands_within n (suc k) m lt way = lands_within way.0 k m (into n way.0 way.1) way.2

  -- a way of as many moves as there are places comes twice to one
  pub comes_twice : (n k m : ℕ) (way : Leads Move n k m) → n < places → places ≤ k → (i : ℕ) × (j : ℕ) × (i < j) × (j ≤ places) × (spot Move n k m way i ≡ spot Move n k m way j)
  comes_twice n k m way lt long = pigeons places (spot Move n k m way) (λ i le. lands_within n i (spot Move n k m way i) lt (spot_parts Move n k m way i (k - i) (omega arith)).0)

  -- Where at most one move leaves each place, an end is fewer moves away than there are places.
  pub end_is_near : ((n p q : ℕ) → Move n p → Move n q → p ≡ q) → (n k : ℕ) → n < places → EndsAfter Move n k → k < places
  end_is_near only n k lt ends = elim (cases_lt k places) [
    | inl short ↦ short
    | inr long ↦ (
        let two = comes_twice n k ends.0 ends.1 lt long in
        let x = spot Move n k ends.0 ends.1 two.0 in
        let there = spot_between Move n k ends.0 ends.1 two.0 (two.1 - two.0) two.1 (omega (arith, two.2)) (omega (arith, two.3)) in
        let back : Leads Move x (two.1 - two.0) x = subst (λ y. Leads Move x (two.1 - two.0) y) (sym two.4) there in
        let P : ℕ → Type 0 = λ l. Leads Move x l x in
        let same : two.1 - two.0 ≡ suc (two.1 - two.0 - 1) = omega (arith, two.2) in
        let rest = (spot_parts Move n k ends.0 ends.1 two.0 (k - two.0) (omega (arith, two.2, two.3))).1 in
        absurd (circle_never_ends Move only x (k - two.0) ends.0 (two.1 - two.0 - 1, subst P same back) rest ends.2))
  ]

-- At most one move enters each place.
module _ (Move : ℕ → ℕ → Type 0) (alone : (n m p : ℕ) → Move n p → Move m p → n ≡ m) where
  -- ways of one length to one place start at one place
  pub starts_once : (n m k x : ℕ) → Leads Move n k x → Leads Move m k x → n ≡ m
  starts_once n m zero x way other = way ∙ sym other
  starts_once n m (suc k) x way other =
      let same : way.0 ≡ other.0 = starts_once way.0 other.0 k x way.2 other.2 in
      alone n m other.0 (subst (λ y. Move n y) same way.1) other.1

  -- a place from which a way comes twice to another is on a circle
  pub circle_before : (n i d x : ℕ) → 0 < d → Leads Move n i x → Leads Move n (d + i) x → IsOnCircle Move n
  circle_before n i d x some way more =
      let parts = spot_parts Move n (d + i) x more d i refl in
      let there = spot Move n (d + i) x more d in
      let same : there ≡ n = starts_once there n i x parts.1 way in
      let back : Leads Move n d n = subst (λ y. Leads Move n d y) same parts.0 in
      let P : ℕ → Type 0 = λ l. Leads Move n l n in
      let count : d ≡ suc (d - 1) = omega (arith, some) in
      (d - 1, subst P count back)

  -- From each of so many places a move leads to another one, or it is an end.
  module _ (places : ℕ) (into : (n p : ℕ) → Move n p → p < places) (goes : (n : ℕ) → n < places → IsEnd Move n ⊎ ((p : ℕ) × Move n p)) where
    way_on : (n k : ℕ) → n < places → ((count : ℕ) → ¬ EndsAfter Move n count) → (m : ℕ) × Leads Move n k m
    way_on n zero lt endless = (n, refl)
    way_on n (suc k) lt endless =
        let way = way_on n k lt endless in
        elim (goes way.0 (lands_within Move places into n k way.0 lt way.1)) [
          | inl ends ↦ absurd (endless k (way.0, way.1, ends))
          | inr (p, move) ↦ (p, one_more Move n k way.0 p way.1 move)
        ]

    -- a place that leads to no end is on a circle
    pub endless_circles : (n : ℕ) → n < places → ((count : ℕ) → ¬ EndsAfter Move n count) → IsOnCircle Move n
    endless_circles n lt endless =
        let way = way_on n places lt endless in
        let two = comes_twice Move places into n places way.0 way.1 lt (omega arith) in
        let i = two.0 in
        let d = two.1 - two.0 in
        let here = (spot_parts Move n places way.0 way.1 i (places - i) (omega (arith, two.2, two.3))).0 in
        let there = (spot_parts Move n places way.0 way.1 two.1 (places - two.1) (omega (arith, two.3))).0 in
        let P : ℕ → Type 0 = λ l. Leads Move n l (spot Move n places way.0 way.1 two.1) in
        let same : two.1 ≡ d + i = omega (arith, two.2) in
        let again = subst (λ y. Leads Move n (d + i) y) (sym two.4) (subst P same there) in
        circle_before n i d (spot Move n places way.0 way.1 i) (omega (arith, two.2)) here again

  module _ (IsPlace : ℕ → Type 0) (stays : (n p : ℕ) → Move n p → IsPlace p) (one_end : (n m : ℕ) → IsPlace n → IsPlace m → IsEnd Move n → IsEnd Move m → n ≡ m) where
    -- no two places are as far from the end
    pub as_far : (k n m : ℕ) → IsPlace n → IsPlace m → EndsAfter Move n k → EndsAfter Move m k → n ≡ m
    as_far zero n m here there one other = one_end n m here there (subst (λ x. IsEnd Move x) (sym one.1) one.2) (subst (λ x. IsEnd Move x) (sym other.1) other.2)
    as_far (suc k) n m here there one other =
        let p = one.1.0 in
        let q = other.1.0 in
        let same : p ≡ q = as_far k p q (stays n p one.1.1) (stays m q other.1.1) (one.0, one.1.2, one.2) (other.0, other.1.2, other.2) in
        alone n m q (subst (λ x. Move n x) same one.1.1) other.1.1
