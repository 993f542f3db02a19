-- Numbers that ascend from above 0 on, as they stand or once they are sorted.
use Rattle.std.{proofs.Common.{Bool, true, false, ◌≡◌, ◌≢◌, ℕ, zero, suc, List, ◌∷◌, refl, sym, arith}, specs.Prelude.{◌==◌}, specs.List.{AllPairs}, specs.List.Sorted.{IsPermutation, IsStrictlyIncreasing, IsNonDecreasing}, proofs.lemmas.Bool.Decides.{Decides-eqb}, proofs.lemmas.List.Kept.{AllPairs-from_increasing}, proofs.lemmas.List.Sorted.{IsPermutation-cons, IsPermutation-sym}, proofs.lemmas.Map.Keys.{IsDistinct-IsPermutation, IsStrictlyIncreasing-from_distinct}, proofs.lemmas.Map.Made.{AllPairs-from_IsDistinct, IsDistinct-from_AllPairs}}

-- none of the numbers is 0, and no two are the same
abbrev pub AreApart : List ℕ → Type 0
AreApart numbers = AllPairs (λ x y. x ≢ y) (0 ∷ numbers)

pub ascending_apart : (numbers : List ℕ) → IsStrictlyIncreasing (0 ∷ numbers) → AreApart numbers
ascending_apart numbers rise i j d less within same = let up = AllPairs-from_increasing (0 ∷ numbers) rise i j d less within in absurd (omega (arith, up, same))

flips : (x y : ℕ) → (x == y) ≡ (y == x)
flips x y = by (x == y) (y == x) (λ h. (Decides-eqb y x).1 (sym ((Decides-eqb x y).0 h))) (λ h. (Decides-eqb x y).1 (sym ((Decides-eqb y x).0 h)))
  where
    by : (b d : Bool) → (b ≡ true → d ≡ true) → (d ≡ true → b ≡ true) → b ≡ d
    by true d on back = sym (on refl)
    by false true on back = back refl
    by false false on back = refl

moved_apart : (numbers others : List ℕ) → IsPermutation numbers others → AreApart numbers → AreApart others
moved_apart numbers others moved apart =
    AllPairs-from_IsDistinct Decides-eqb (0 ∷ others)
    (IsDistinct-IsPermutation (λ (x y : ℕ). x == y) flips (0 ∷ numbers) (0 ∷ others) (IsPermutation-cons 0 numbers others moved) (IsDistinct-from_AllPairs Decides-eqb (0 ∷ numbers) apart))

module _ (numbers sorted : List ℕ) (moved : IsPermutation numbers sorted) where
  pub sorted_apart : IsStrictlyIncreasing (0 ∷ sorted) → AreApart numbers
  sorted_apart rise = moved_apart sorted numbers (IsPermutation-sym numbers sorted moved) (ascending_apart sorted rise)

  pub apart_sorted : IsNonDecreasing sorted → AreApart numbers → IsStrictlyIncreasing (0 ∷ sorted)
  apart_sorted rises apart = IsStrictlyIncreasing-from_distinct (0 ∷ sorted) from_zero (IsDistinct-from_AllPairs Decides-eqb (0 ∷ sorted) (moved_apart numbers sorted moved apart))
    where
      from_zero : IsNonDecreasing (0 ∷ sorted)
      from_zero zero j d le within = omega arith
      from_zero (suc i) zero d le within = absurd (omega arith)
      from_zero (suc i) (suc j) d le within = rises i j d (omega arith) (omega arith)
