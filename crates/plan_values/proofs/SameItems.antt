-- Two lists of which each item has the same value.
use Rattle.std.{proofs.Common.{◌≡◌, ℕ, suc, ◌<◌, ◌≤◌, List, [], ◌∷◌, length, get_or, Some, refl, sym, ◌∙◌, ap, arith}, specs.Prelude.{map, slice_get, option_map}, proofs.lemmas.Option.{same_Some, slice_get_read, slice_get_past, slice_get-map}}

-- the items at one place have the same value
abbrev pub IsSameAt : {A B : Type 0} → (A → B) → List A → List A → ℕ → Type 0
IsSameAt f xs ys k = option_map f (slice_get xs k) ≡ option_map f (slice_get ys k)

pub same_items : {A B : Type 0} (f : A → B) (xs ys : List A) → length xs ≡ length ys → ((k : ℕ) → k < length xs → IsSameAt f xs ys k) → map f xs ≡ map f ys
same_items f [] [] many same = refl
same_items f [] (y ∷ ys) many same = absurd (omega arith)
same_items f (x ∷ xs) [] many same = absurd (omega arith)
same_items f (x ∷ xs) (y ∷ ys) many same =
    let first : f x ≡ f y = same_Some (f x) (f y) (same 0 (omega arith)) in
    let rest : map f xs ≡ map f ys = same_items f xs ys (omega arith) (λ k less. same (suc k) (omega (arith, less))) in
    cc

pub same_here : {A B : Type 0} (f : A → B) (xs ys : List A) (k : ℕ) (x y : A) → k < length xs → k < length ys → x ≡ get_or xs k x → y ≡ get_or ys k y → f x ≡ f y → IsSameAt f xs ys k
same_here f xs ys k x y within others at there same =
    ap (option_map f) (slice_get_read xs (length xs) k x refl within at) ∙ ap Some same ∙ sym (ap (option_map f) (slice_get_read ys (length ys) k y refl others there))

pub value_here : {A B : Type 0} (f : A → B) (xs ys : List A) (k : ℕ) (x y : A) → k < length xs → k < length ys → x ≡ get_or xs k x → y ≡ get_or ys k y → IsSameAt f xs ys k → f x ≡ f y
value_here f xs ys k x y within others at there same =
    same_Some (f x) (f y)
    (sym (ap (option_map f) (slice_get_read xs (length xs) k x refl within at)) ∙ same ∙ ap (option_map f) (slice_get_read ys (length ys) k y refl others there))

-- beyond both lists there is none
pub same_beyond : {A B : Type 0} (f : A → B) (xs ys : List A) (k : ℕ) → length xs ≤ k → length ys ≤ k → IsSameAt f xs ys k
same_beyond f xs ys k past also = ap (option_map f) (slice_get_past xs k past) ∙ sym (ap (option_map f) (slice_get_past ys k also))

pub others_here : {A B : Type 0} (f : A → B) (xs ys : List A) (k : ℕ) (x y : A) → k < length xs → k < length ys → x ≡ get_or xs k x → y ≡ get_or ys k y → ¬ (f x ≡ f y) → ¬ (map f xs ≡ map f ys)
others_here f xs ys k x y within others at there not same =
    let one : slice_get (map f xs) k ≡ Some (f x) = slice_get-map f xs k ∙ ap (option_map f) (slice_get_read xs (length xs) k x refl within at) in
    let other : slice_get (map f ys) k ≡ Some (f y) = slice_get-map f ys k ∙ ap (option_map f) (slice_get_read ys (length ys) k y refl others there) in
    not (same_Some (f x) (f y) (sym one ∙ ap (λ zs. slice_get zs k) same ∙ other))
