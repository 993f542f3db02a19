-- Walks by moves: a walk to a place makes fewer moves than there are places, or can be cut short.
use Rattle.std.{proofs.Common.{◌≡◌, ℕ, zero, suc, ◌+◌, ◌-◌, ◌<◌, ◌≤◌, inl, inr, refl, sym, subst, arith, below_more}, proofs.lemmas.Bool.{cases_lt, cases_order}}
use Rattle.net_rules.{specs.Moves.{Leads, IsEnd}, proofs.Pigeons.{pigeons}, proofs.Circling.{spot, spot_parts, both_ways, leads_only}}

-- Each place that a move leaves is below a number.
module _ (Move : ℕ → ℕ → Type 0) (places : ℕ) (within : (n p : ℕ) → Move n p → n < places) where
  starts_within : (n k m : ℕ) → Leads Move n k m → m < places → n < places
  starts_within n zero m way lt = subst (λ x. x < places) (sym way) lt
  starts_within n (suc k) m way lt = within n way.0 way.1

  -- a walk of as many moves as there are places comes twice to one, and is not needed to get there
  cut : (n k m : ℕ) → Leads Move n k m → m < places → places ≤ k → (l : ℕ) × (l < k) × Leads Move n l m
  cut n k m way lt long =
      let at = spot Move n k m way in
      let two = pigeons places at (λ i le. starts_within (at i) (k - i) m (spot_parts Move n k m way i (k - i) (omega (arith, le, long))).1 lt) in
      let i = two.0 in
      let j = two.1 in
      let before = (spot_parts Move n k m way i (k - i) (omega (arith, two.2, two.3, long))).0 in
      let after = (spot_parts Move n k m way j (k - j) (omega (arith, two.3, long))).1 in
      (i + (k - j), omega (arith, two.2, two.3, long), both_ways Move n i (at i) (k - j) m (i + (k - j)) refl before (subst (λ y. Leads Move y (k - j) m) (sym two.4) after))

  cut_within : (fuel n k m : ℕ) → k ≤ fuel → Leads Move n k m → m < places → (l : ℕ) × (l < places) × Leads Move n l m
  cut_within zero n k m le way lt = (k, omega (arith, le, lt), way)
  cut_within (suc fuel) n k m le way lt = elim (cases_lt k places) [
    | inl short ↦ (k, short, way)
    | inr long ↦ (let less = cut n k m way lt long in cut_within fuel n less.0 m (omega (arith, le, less.1)) less.2 lt)
  ]

  pub short_walk : (n k m : ℕ) → Leads Move n k m → m < places → (l : ℕ) × (l < places) × Leads Move n l m
  short_walk n k m way lt = cut_within k n k m (omega arith) way lt

-- fewer moves than so many don't lead from n to m
abbrev pub NotWithin : (ℕ → ℕ → Type 0) → ℕ → ℕ → ℕ → Type 0
NotWithin Move n m count = (k : ℕ) → k < count → ¬ Leads Move n k m

-- At most one move leaves each place.
module _ (Move : ℕ → ℕ → Type 0) (only : (n p q : ℕ) → Move n p → Move n q → p ≡ q) where
  -- from each place of a walk before its last one a move leads on
  pub leads_on : (n i x k m : ℕ) → Leads Move n i x → Leads Move n k m → i < k → (p : ℕ) × Move x p
  leads_on n i x k m way longer lt =
      let y = spot Move n k m longer i in
      let parts = spot_parts Move n k m longer i (k - i) (omega (arith, lt)) in
      let P : ℕ → Type 0 = λ d. Leads Move y d m in
      let count : k - i ≡ suc (k - i - 1) = omega (arith, lt) in
      let rest : Leads Move y (suc (k - i - 1)) m = subst P count parts.1 in
      (rest.0, subst (λ z. Move z rest.0) (leads_only Move only n i y x parts.0 way) rest.1)

  pub not_within_more : (n count x m : ℕ) → Leads Move n count x → ¬ (x ≡ m) → NotWithin Move n m count → NotWithin Move n m (count + 1)
  not_within_more n count x m way other none = below_more (λ k. ¬ Leads Move n k m) count none (λ there. other (leads_only Move only n count x m way there))

  -- a walk that ends elsewhere before it comes to a place doesn't come to it
  pub ends_elsewhere : (n count x m : ℕ) → Leads Move n count x → IsEnd Move x → ¬ (x ≡ m) → NotWithin Move n m count → (k : ℕ) → ¬ Leads Move n k m
  ends_elsewhere n count x m way ends other none k there = elim (cases_lt k (count + 1)) [
    | inl lt ↦ not_within_more n count x m way other none k lt there
    | inr past ↦ (let on = leads_on n count x k m way there (omega (arith, past)) in ends on.0 on.1)
  ]

  -- two ends of a walk are one
  pub one_end : (n k m l x : ℕ) → Leads Move n k m → IsEnd Move m → Leads Move n l x → IsEnd Move x → m ≡ x
  one_end n k m l x way ends other stops = elim (cases_order k l) [
    | inl same ↦ (let P : ℕ → Type 0 = λ j. Leads Move n j x in leads_only Move only n k m x way (subst P (sym same) other))
    | inr order ↦ elim order [
      | inl less ↦ (let on = leads_on n k m l x way other less in absurd (ends on.0 on.1))
      | inr more ↦ (let on = leads_on n l x k m other way more in absurd (stops on.0 on.1))
    ]
  ]
