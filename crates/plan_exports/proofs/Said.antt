-- Texts that grow piece by piece.
use Rattle.std.{proofs.Common.{◌≡◌, ℕ, ◌+◌, ◌<◌, zero, suc, List, [], ◌∷◌, ◌++◌, length, get_or, map, take, refl, sym, ap, ◌∙◌, append_assoc, append-nil, arith}, specs.List.{flat_map, range_with_len}, specs.Prelude.{Bool, true, false, filter, if◌then◌else◌}, proofs.lemmas.List.{take_more, take-map, get_or-map, length-map}, proofs.lemmas.List.Concat.{flat_map-append}, proofs.lemmas.List.Elements.{filter-append}}

flat_more : {A : Type 0} (f : A → List ℕ) (xs : List A) (i : ℕ) (d : A) → i < length xs → flat_map f (take (i + 1) xs) ≡ flat_map f (take i xs) ++ f (get_or xs i d)
flat_more f xs i d lt =
    ap (flat_map f) (take_more xs i d lt) ∙ flat_map-append f (take i xs) (get_or xs i d ∷ []) ∙ ap (λ t. flat_map f (take i xs) ++ t) (append-nil (f (get_or xs i d)))

-- what was said of so many items, and what is said of the next
pub said_more : {A : Type 0} (f : A → List ℕ) (xs : List A) (i : ℕ) (d : A) (before old said new : List ℕ) → i < length xs → old ≡ before ++ flat_map f (take i xs)
    → new ≡ old ++ said → said ≡ f (get_or xs i d) → new ≡ before ++ flat_map f (take (i + 1) xs)
said_more f xs i d before old said new lt was added is =
    added ∙ ap (λ t. t ++ said) was ∙ append_assoc before (flat_map f (take i xs)) said
    ∙ ap (λ t. before ++ t) (ap (λ t. flat_map f (take i xs) ++ t) is ∙ sym (flat_more f xs i d lt))

-- the same of what items stand for
pub said_of_more : {A B : Type 0} (f : B → List ℕ) (g : A → B) (xs : List A) (i : ℕ) (x : A) (before old said new : List ℕ) → i < length xs → x ≡ get_or xs i x
    → old ≡ before ++ flat_map f (map g (take i xs)) → new ≡ old ++ said → said ≡ f (g x) → new ≡ before ++ flat_map f (map g (take (i + 1) xs))
said_of_more f g xs i x before old said new lt here was added is =
    let long : i < length (map g xs) = omega (arith, lt, length-map xs g) in
    let item : get_or (map g xs) i (g x) ≡ g x = get_or-map g xs i x (g x) lt ∙ ap g (sym here) in
    said_more f (map g xs) i (g x) before old said new long (was ∙ ap (λ ys. before ++ flat_map f ys) (sym (take-map g i xs))) added (is ∙ ap f (sym item))
    ∙ ap (λ ys. before ++ flat_map f ys) (take-map g (i + 1) xs)

-- one number more
pub range_more : (a n : ℕ) → range_with_len a (n + 1) ≡ range_with_len a n ++ (a + n) ∷ []
range_more a zero = let same : a ≡ a + 0 = omega arith in ap (λ k. k ∷ []) same
range_more a (suc n) =
    let same : a + 1 + n ≡ a + suc n = omega arith in
    let rest = range_more (a + 1) n ∙ ap (λ k. range_with_len (a + 1) n ++ k ∷ []) same in
    let count : suc n + 1 ≡ suc (n + 1) = omega arith in
    ap (range_with_len a) count ∙ ap (λ ks. a ∷ ks) rest

pub said_of_number : (f : ℕ → List ℕ) (a n : ℕ) (old said new : List ℕ) → old ≡ flat_map f (range_with_len a n) → new ≡ old ++ said → said ≡ f (a + n)
    → new ≡ flat_map f (range_with_len a (n + 1))
said_of_number f a n old said new was added is =
    added ∙ ap (λ t. t ++ said) was ∙ ap (λ t. flat_map f (range_with_len a n) ++ t) (is ∙ sym (append-nil (f (a + n))))
    ∙ sym (flat_map-append f (range_with_len a n) ((a + n) ∷ [])) ∙ ap (flat_map f) (sym (range_more a n))

pub filter_step : (p : ℕ → Bool) (n : ℕ) (b : Bool) (old : List ℕ) → b ≡ p n → old ≡ filter p (range_with_len 0 n)
    → (if b then old ++ n ∷ [] else old) ≡ filter p (range_with_len 0 (n + 1))
filter_step p n b old is was = by b is
  where
    from_zero : range_with_len 0 (n + 1) ≡ range_with_len 0 n ++ n ∷ []
    from_zero = let same : 0 + n ≡ n = omega arith in range_more 0 n ∙ ap (λ k. range_with_len 0 n ++ k ∷ []) same

    parts : filter p (range_with_len 0 (n + 1)) ≡ filter p (range_with_len 0 n) ++ filter p (n ∷ [])
    parts = ap (filter p) from_zero ∙ filter-append p (range_with_len 0 n) (n ∷ [])

    one : (b : Bool) → b ≡ p n → filter p (n ∷ []) ≡ (if b then n ∷ [] else [])
    one true is = rw (sym is) refl
    one false is = rw (sym is) refl

    by : (b : Bool) → b ≡ p n → (if b then old ++ n ∷ [] else old) ≡ filter p (range_with_len 0 (n + 1))
    by true is = ap (λ t. t ++ n ∷ []) was ∙ ap (λ t. filter p (range_with_len 0 n) ++ t) (sym (one true is)) ∙ sym parts
    by false is = was ∙ sym (append-nil (filter p (range_with_len 0 n))) ∙ ap (λ t. filter p (range_with_len 0 n) ++ t) (sym (one false is)) ∙ sym parts

-- four pieces after a beginning
pub four_pieces : (h a b c d t1 t2 t3 t4 t5 : List ℕ) → t1 ≡ h → t2 ≡ t1 ++ a → t3 ≡ t2 ++ b → t4 ≡ t3 ++ c → t5 ≡ t4 ++ d → t5 ≡ h ++ (a ++ (b ++ (c ++ d)))
four_pieces h a b c d t1 t2 t3 t4 t5 e1 e2 e3 e4 e5 =
    let two : t2 ≡ h ++ a = e2 ∙ ap (λ t. t ++ a) e1 in
    let three : t3 ≡ h ++ (a ++ b) = e3 ∙ ap (λ t. t ++ b) two ∙ append_assoc h a b in
    let four : t4 ≡ h ++ (a ++ (b ++ c)) = e4 ∙ ap (λ t. t ++ c) three ∙ append_assoc h (a ++ b) c ∙ ap (λ t. h ++ t) (append_assoc a b c) in
    e5 ∙ ap (λ t. t ++ d) four ∙ append_assoc h (a ++ (b ++ c)) d ∙ ap (λ t. h ++ t) (append_assoc a (b ++ c) d ∙ ap (λ t. a ++ t) (append_assoc b c d))
