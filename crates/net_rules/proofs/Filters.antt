-- Searches and filters of lists.
use Rattle.std.{proofs.Common.{◌≡◌, ℕ, zero, suc, ◌<◌, List, [], ◌∷◌, Some, None, refl, sym, ◌∙◌, ap, arith, ◌⊎◌, inl, inr, Bool, true, false, filter}, specs.Prelude.{slice_get, find}, proofs.lemmas.Bool.{cases_Bool}, proofs.lemmas.Option.{same_Some, none-some}}

-- what a search finds
pub find_cases : {X : Type 0} (test : X → Bool) (xs : List X) → ((find test xs ≡ None) × ((i : ℕ) (x : X) → slice_get xs i ≡ Some x → test x ≡ false)) ⊎ ((i : ℕ) × (x : X) × (slice_get xs i ≡ Some x) × (test x ≡ true) × (find test xs ≡ Some x))
find_cases test [] = inl (refl, λ i x is. absurd (none-some x is))
find_cases test (x ∷ xs) = elim (cases_Bool (test x)) [
  | inl passes ↦ inr (0, x, refl, passes, rw passes refl)
  | inr fails ↦ elim (find_cases test xs) [
    | inl (none, fail) ↦ inl (rw fails none, λ i y. found_no test x xs fails fail i y)
    | inr (i, y, is, passes, found) ↦ inr (suc i, y, is, passes, rw fails found)
  ]
]
  where
    found_no : {X : Type 0} (test : X → Bool) (x : X) (xs : List X) → test x ≡ false → ((i : ℕ) (y : X) → slice_get xs i ≡ Some y → test y ≡ false) → (i : ℕ) (y : X) → slice_get (x ∷ xs) i ≡ Some y → test y ≡ false
    found_no test x xs fails fail zero y is = ap test (sym (same_Some x y is)) ∙ fails
    found_no test x xs fails fail (suc i) y is = fail i y is

-- what is kept stood there before, and in its order
head_kept : {X : Type 0} (test : X → Bool) (y : X) (ys : List X) → test y ≡ true → ((i : ℕ) (x : X) → slice_get (filter test ys) i ≡ Some x → (j : ℕ) × (slice_get ys j ≡ Some x) × (test x ≡ true)) → (i : ℕ) (x : X) → slice_get (y ∷ filter test ys) i ≡ Some x → (j : ℕ) × (slice_get (y ∷ ys) j ≡ Some x) × (test x ≡ true)
head_kept test y ys passes rest zero x is = (0, is, ap test (sym (same_Some y x is)) ∙ passes)
head_kept test y ys passes rest (suc i) x is = (let found = rest i x is in (suc found.0, found.1, found.2))

pub in_filter : {X : Type 0} (test : X → Bool) (xs : List X) (i : ℕ) (x : X) → slice_get (filter test xs) i ≡ Some x → (j : ℕ) × (slice_get xs j ≡ Some x) × (test x ≡ true)
in_filter test [] i x = λ is. absurd (none-some x is)
in_filter test (y ∷ ys) i x = elim (cases_Bool (test y)) [
  | inl passes ↦ rw passes (head_kept test y ys passes (in_filter test ys) i x)
  | inr fails ↦ rw fails (λ is. (let found = in_filter test ys i x is in (suc found.0, found.1, found.2)))
]

pub to_filter : {X : Type 0} (test : X → Bool) (xs : List X) (j : ℕ) (x : X) → slice_get xs j ≡ Some x → test x ≡ true → (i : ℕ) × (slice_get (filter test xs) i ≡ Some x)
to_filter test [] j x is passes = absurd (none-some x is)
to_filter test (y ∷ ys) zero x is passes = (let here : test y ≡ true = ap test (same_Some y x is) ∙ passes in rw here (0, is))
to_filter test (y ∷ ys) (suc j) x is passes =
    let found = to_filter test ys j x is passes in
    elim (cases_Bool (test y)) [ inl keeps ↦ rw keeps (suc found.0, found.1) | inr fails ↦ rw fails found ]

head_pairs : {X : Type 0} (R : X → X → Type 0) (test : X → Bool) (z : X) (zs : List X) → ((i j : ℕ) (x y : X) → i < j → slice_get (z ∷ zs) i ≡ Some x → slice_get (z ∷ zs) j ≡ Some y → R x y) → ((i j : ℕ) (x y : X) → i < j → slice_get (filter test zs) i ≡ Some x → slice_get (filter test zs) j ≡ Some y → R x y) → (i j : ℕ) (x y : X) → i < j → slice_get (z ∷ filter test zs) i ≡ Some x → slice_get (z ∷ filter test zs) j ≡ Some y → R x y
head_pairs R test z zs pairs rest i zero x y lt is is' = absurd (omega arith)
head_pairs R test z zs pairs rest zero (suc j) x y lt is is' = (let found = in_filter test zs j y is' in pairs 0 (suc found.0) x y (omega arith) is found.1)
head_pairs R test z zs pairs rest (suc i) (suc j) x y lt is is' = rest i j x y (omega arith) is is'

pub filter_pairs : {X : Type 0} (R : X → X → Type 0) (test : X → Bool) (xs : List X) → ((i j : ℕ) (x y : X) → i < j → slice_get xs i ≡ Some x → slice_get xs j ≡ Some y → R x y) → (i j : ℕ) (x y : X) → i < j → slice_get (filter test xs) i ≡ Some x → slice_get (filter test xs) j ≡ Some y → R x y
filter_pairs R test [] pairs i j x y lt = λ is is'. absurd (none-some x is)
filter_pairs R test (z ∷ zs) pairs i j x y lt =
    let rest = filter_pairs R test zs (λ k l v w less here there. pairs (suc k) (suc l) v w (omega (arith, less)) here there) in
    elim (cases_Bool (test z)) [
      | inl passes ↦ rw passes (head_pairs R test z zs pairs rest i j x y lt)
      | inr fails ↦ rw fails (rest i j x y lt)
    ]
