-- Items of lists by their indices.
use Rattle.std.{proofs.Common.{◌≡◌, ◌⊎◌, inl, inr, ◌<◌, ◌≤◌, ℕ, zero, suc, ◌+◌, List, [], ◌∷◌, ◌++◌, length, map, take, get_or, Some, ap, refl, sym, ◌∙◌, arith}, specs.Prelude.{slice_get}, proofs.Math.Seq.{take-suc}, proofs.lemmas.List.{map-append, take_all}, proofs.lemmas.Option.{same_Some}}

-- an item of a list with one more is one of the list, or the one more
pub item_pushed : {A : Type 0} (xs : List A) (x : A) (i : ℕ) (y : A) → slice_get (xs ++ x ∷ []) i ≡ Some y → (slice_get xs i ≡ Some y) ⊎ ((i ≡ length xs) × (x ≡ y))
item_pushed [] x zero y is = inr (refl, same_Some x y is)
item_pushed [] x (suc i) y is = inl is
item_pushed (z ∷ xs) x zero y is = inl is
item_pushed (z ∷ xs) x (suc i) y is = elim (item_pushed xs x i y is) [
  | inl h ↦ inl h
  | inr h ↦ inr (ap suc h.0, h.1)
]

-- one item more is copied
pub copied_more : {A B : Type 0} (f : A → B) (xs made : List A) (n : ℕ) (x copy : A) → n < length xs → x ≡ get_or xs n x → f copy ≡ f x
    → map f made ≡ map f (take n xs) → map f (made ++ copy ∷ []) ≡ map f (take (n + 1) xs)
copied_more f xs made n x copy within is same before =
    let at : n + 1 ≡ suc n = omega arith in
    let one : take (n + 1) xs ≡ take n xs ++ (x ∷ []) = ap (λ k. take k xs) at ∙ (take-suc xs n x within ∙ ap (λ y. take n xs ++ (y ∷ [])) (sym is)) in
    map-append f made (copy ∷ []) ∙ (ap (λ ys. ys ++ (f copy ∷ [])) before ∙ (ap (λ y. map f (take n xs) ++ (y ∷ [])) same
    ∙ (sym (map-append f (take n xs) (x ∷ [])) ∙ ap (map f) (sym one))))

-- the first items of two lists have the same values, and the next ones too
pub same_more : {A B : Type 0} (f : A → B) (xs ys : List A) (n : ℕ) (x y : A) → n < length xs → n < length ys → x ≡ get_or xs n x → y ≡ get_or ys n y → f x ≡ f y
    → map f (take n xs) ≡ map f (take n ys) → map f (take (n + 1) xs) ≡ map f (take (n + 1) ys)
same_more f xs ys n x y within others is are same before =
    let at : n + 1 ≡ suc n = omega arith in
    let one : take (n + 1) xs ≡ take n xs ++ (x ∷ []) = ap (λ k. take k xs) at ∙ (take-suc xs n x within ∙ ap (λ z. take n xs ++ (z ∷ [])) (sym is)) in
    ap (map f) one ∙ copied_more f ys (take n xs) n y x others are same before

pub same_all : {A B : Type 0} (f : A → B) (xs ys : List A) (n : ℕ) → length xs ≤ n → length ys ≤ n → map f (take n xs) ≡ map f (take n ys) → map f xs ≡ map f ys
same_all f xs ys n past also same = ap (map f) (sym (take_all n xs past)) ∙ (same ∙ ap (map f) (take_all n ys also))
