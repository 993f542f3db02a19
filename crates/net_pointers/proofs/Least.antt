-- The least of a list of numbers, as it is looked for.
use Rattle.std.{proofs.Common.{◌≡◌, ◌<◌, ◌≤◌, ◌+◌, ℕ, zero, suc, List, [], ◌∷◌, length, get_or, Bool, true, false, nat_lt, refl, subst, arith}, proofs.lemmas.Bool.{ltb-true, ltb-false}}

-- it is at most each of those that were passed
abbrev pub IsLeast : List ℕ → ℕ → ℕ → Type 0
IsLeast xs least place = (k d : ℕ) → k < place → get_or xs least 0 ≤ get_or xs k d

-- each one before it is larger
abbrev pub IsFirst : List ℕ → ℕ → Type 0
IsFirst xs least = (k : ℕ) → k < least → get_or xs least 0 < get_or xs k 0

-- a smaller one than all before is the first
pub first_more : (xs : List ℕ) (old new : ℕ) → IsLeast xs old new → get_or xs new 0 < get_or xs old 0 → IsFirst xs new
first_more xs old new least below k before =
    let above : get_or xs old 0 ≤ get_or xs k 0 = least k 0 before in
    omega arith

same_at : (xs : List ℕ) (k a b : ℕ) → k < length xs → get_or xs k a ≡ get_or xs k b
same_at [] k a b within = absurd (omega arith)
same_at (x ∷ xs) zero a b within = refl
same_at (x ∷ xs) (suc k) a b within = same_at xs k a b (omega arith)

-- one more number was passed
pub one_more : (xs : List ℕ) (old new place : ℕ) → place < length xs → IsLeast xs old place → get_or xs new 0 ≤ get_or xs old 0 → get_or xs new 0 ≤ get_or xs place 0 → IsLeast xs new (place + 1)
one_more xs old new place within least below here k d passed = by (nat_lt k place) refl
  where
    by : (b : Bool) → nat_lt k place ≡ b → get_or xs new 0 ≤ get_or xs k d
    by true e =
        let before : get_or xs old 0 ≤ get_or xs k d = least k d (ltb-true k place e) in
        omega arith
    by false e =
        let past : place ≤ k = ltb-false k place e in
        let is : place ≡ k = omega arith in
        subst (λ n. get_or xs new 0 ≤ get_or xs n d) is (subst (λ n. get_or xs new 0 ≤ n) (same_at xs place 0 d within) here)
