-- Lists by the numbers from 0 on.
use Rattle.std.{proofs.Common.{◌≡◌, ℕ, zero, suc, ◌+◌, ◌≢◌, List, [], ◌∷◌, ◌++◌, refl, sym, ap, ◌∙◌, arith, append-nil, inl, inr, Option}, specs.List.{flat_map, range_with_len}, proofs.lemmas.Bool.Decides.{eqb_tells}, proofs.lemmas.List.{flat_map_more}}
use Rattle.net_questions.{specs.declared.pair.Pair.{Pair}, specs.Reaching.{pair_between}}

pub range_more : (a n : ℕ) → range_with_len a (suc n) ≡ range_with_len a n ++ (a + n) ∷ []
range_more a zero = let same : a ≡ a + 0 = omega arith in ap (λ k. k ∷ []) same
range_more a (suc n) =
    let later = range_more (a + 1) n in
    let same : (a + 1) + n ≡ a + suc n = omega arith in
    ap (λ ks. a ∷ ks) (later ∙ ap (λ k. range_with_len (a + 1) n ++ k ∷ []) same)

-- one number more
pub flat_map_range_more : {A : Type 0} (f : ℕ → List A) (base : List A) (n : ℕ) → (base ++ flat_map f (range_with_len 0 n)) ++ f n ≡ base ++ flat_map f (range_with_len 0 (n + 1))
flat_map_range_more f base n =
    let same : 0 + n ≡ n = omega arith in
    let more : suc n ≡ n + 1 = omega arith in
    let range = range_more 0 n ∙ ap (λ k. range_with_len 0 n ++ k ∷ []) same in
    flat_map_more f base (range_with_len 0 n) n ∙ (ap (λ ks. base ++ flat_map f ks) (sym range) ∙ ap (λ k. base ++ flat_map f (range_with_len 0 k)) more)

module _ (hops : ℕ → ℕ → Option ℕ) (base : List Pair) (a b : ℕ) where
  -- a node with itself is no pair
  pub no_pair : a ≡ b → base ≡ base ++ pair_between hops a b
  no_pair same = elim (eqb_tells a b) [
    | inr other ↦ absurd (other.1 same)
    | inl is ↦ (
        let none : pair_between hops a b ≡ [] = rw is.0 refl in
        sym (append-nil base) ∙ ap (λ ps. base ++ ps) (sym none))
  ]

  pub one_pair : a ≢ b → base ++ record { from = a; to = b; there = hops a b; back = hops b a } ∷ [] ≡ base ++ pair_between hops a b
  one_pair apart = elim (eqb_tells a b) [
    | inl is ↦ absurd (apart is.1)
    | inr other ↦ (
        let one : pair_between hops a b ≡ record { from = a; to = b; there = hops a b; back = hops b a } ∷ [] = rw other.0 refl in
        ap (λ ps. base ++ ps) (sym one))
  ]
