-- Items of lists.
use Rattle.std.{proofs.Common.{◌≡◌, ◌<◌, ◌≤◌, ℕ, ◌+◌, List, [], ◌∷◌, ◌++◌, length, map, take, get_or, sym, ap, ◌∙◌, refl, arith}, specs.Prelude.{Contains}, proofs.lemmas.List.{get_or-map, length-map, map_more, take_all, take_more}, proofs.lemmas.List.Elements.{Contains-get_or}}

pub contains_none : {A : Type 0} (x : A) → Contains [] x → ⊥
contains_none x h = omega (arith, h.1)

pub contains_head : {A : Type 0} (x : A) (xs : List A) → Contains (x ∷ xs) x
contains_head x xs = (0, omega arith, refl)

pub contains_map : {A B : Type 0} (f : A → B) (xs : List A) (x : A) → Contains xs x → Contains (map f xs) (f x)
contains_map f xs x there =
    let within : there.0 < length (map f xs) = omega (arith, length-map xs f, there.1) in
    (there.0, within, get_or-map f xs there.0 x (f x) there.1 ∙ ap f there.2)

pub map_contains : {A B : Type 0} (f : A → B) (xs : List A) (y : B) → Contains (map f xs) y → (x : A) × Contains xs x × (f x ≡ y)
map_contains f [] y there = absurd (contains_none y there)
map_contains f (x ∷ xs) y there =
    let within : there.0 < length (x ∷ xs) = omega (arith, length-map (x ∷ xs) f, there.1) in
    (get_or (x ∷ xs) there.0 x, Contains-get_or (x ∷ xs) there.0 x within, sym (get_or-map f (x ∷ xs) there.0 x y within) ∙ there.2)

-- an item that is read at an index is there
pub contains_read : {A : Type 0} (xs : List A) (k : ℕ) (x : A) → k < length xs → x ≡ get_or xs k x → Contains xs x
contains_read xs k x within is = (k, within, sym is)

-- the first items, and one more
pub take_read : {A : Type 0} (xs : List A) (k : ℕ) (x : A) → k < length xs → x ≡ get_or xs k x → take (k + 1) xs ≡ take k xs ++ x ∷ []
take_read xs k x within is = take_more xs k x within ∙ ap (λ y. take k xs ++ y ∷ []) (sym is)

-- ---- two lists with the same values

-- the first items of two lists have the same values, and the next ones too
pub same_more : {A B : Type 0} (f : A → B) (xs ys : List A) (n : ℕ) (x y : A) → n < length xs → n < length ys → x ≡ get_or xs n x → y ≡ get_or ys n y → f x ≡ f y
    → map f (take n xs) ≡ map f (take n ys) → map f (take (n + 1) xs) ≡ map f (take (n + 1) ys)
same_more f xs ys n x y within others is are same before =
    map_more f xs n x within ∙ (ap (λ z. map f (take n xs) ++ f z ∷ []) (sym is) ∙ (ap (λ v. map f (take n xs) ++ v ∷ []) same
    ∙ (ap (λ vs. vs ++ (f y ∷ [])) before ∙ (ap (λ z. map f (take n ys) ++ f z ∷ []) are ∙ sym (map_more f ys n y others)))))

pub same_all : {A B : Type 0} (f : A → B) (xs ys : List A) (n : ℕ) → length xs ≤ n → length ys ≤ n → map f (take n xs) ≡ map f (take n ys) → map f xs ≡ map f ys
same_all f xs ys n past also same = ap (map f) (sym (take_all n xs past)) ∙ (same ∙ ap (map f) (take_all n ys also))

pub others_here : {A B : Type 0} (f : A → B) (xs ys : List A) (k : ℕ) (x y : A) → k < length xs → k < length ys → x ≡ get_or xs k x → y ≡ get_or ys k y → ¬ (f x ≡ f y) → ¬ (map f xs ≡ map f ys)
others_here f xs ys k x y within others is are not same =
    not (ap f is ∙ (sym (get_or-map f xs k x (f x) within) ∙ (ap (λ vs. get_or vs k (f x)) same ∙ (get_or-map f ys k y (f x) others ∙ ap f (sym are)))))
