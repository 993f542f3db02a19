-- The bytes of fields tell the fields, where their shapes are known.
use Rattle.std.{proofs.Common.{◌≡◌, ℕ, ◌+◌, ◌/◌, ◌%◌, List, [], ◌∷◌, ◌++◌, length, drop, take, get_or, refl, sym, ap, ◌∙◌, append_assoc, arith, length-append}, proofs.lemmas.List.{take_at, drop_at}}
use Rattle.pdr_record.specs.Fields.{Field, U8, U16, U32, Raw, field_bytes, followed, bytes_of, Fit}

-- the fields' bytes, and then the others
pub followed-bytes : (fs : List Field) (rest : List ℕ) → followed fs rest ≡ bytes_of fs ++ rest
followed-bytes [] rest = refl
followed-bytes (f ∷ fs) rest =
    ap (λ (bs : List ℕ). field_bytes f ++ bs) (followed-bytes fs rest)
    ∙ sym (append_assoc (field_bytes f) (bytes_of fs) rest)

-- fields after fields
pub followed-append : (fs gs : List Field) (rest : List ℕ) → followed (fs ++ gs) rest ≡ followed fs (followed gs rest)
followed-append [] gs rest = refl
followed-append (f ∷ fs) gs rest = ap (λ (bs : List ℕ). field_bytes f ++ bs) (followed-append fs gs rest)

pub length-followed : (fs : List Field) (rest : List ℕ) → length (followed fs rest) ≡ length (bytes_of fs) + length rest
length-followed fs rest = ap length (followed-bytes fs rest) ∙ length-append (bytes_of fs) rest

pub same_rest : (fs : List Field) (r s : List ℕ) → followed fs r ≡ followed fs s → r ≡ s
same_rest fs r s e =
    let n = length (bytes_of fs) in
    sym (drop_at (bytes_of fs) r n refl) ∙ ap (drop n) (sym (followed-bytes fs r) ∙ e ∙ followed-bytes fs s)
    ∙ drop_at (bytes_of fs) s n refl

-- numbers that fit, of some fields and of others
pub fit_parts : (fs gs : List Field) → Fit (fs ++ gs) → Fit fs × Fit gs
fit_parts [] gs h = (tt, h)
fit_parts (f ∷ fs) gs h = let later = fit_parts fs gs h.1 in ((h.0, later.0), later.1)

-- how many bytes a field has, and whether it is a number
pub data Shape : Type 0 where
  One : Shape
  Two : Shape
  Four : Shape
  Many : ℕ → Shape

abbrev pub shape : Field → Shape
shape (U8 n) = One
shape (U16 n) = Two
shape (U32 n) = Four
shape (Raw bytes) = Many (length bytes)

abbrev pub shapes : List Field → List Shape
shapes [] = []
shapes (f ∷ fs) = shape f ∷ shapes fs

pub one_fields : (fs gs : List Field) (r s : List ℕ) → Fit fs → Fit gs → shapes fs ≡ shapes gs
    → followed fs r ≡ followed gs s → (fs ≡ gs) × (r ≡ s)
one_fields [] [] r s hf hg h e = (refl, e)
one_fields (U8 m ∷ fs) (U8 n ∷ gs) r s hf hg h e =
    let later = one_fields fs gs r s hf.1 hg.1 (cc) (cc) in
    let here : m ≡ n = cc in
    (λ i. U8 (here i) ∷ later.0 i, later.1)
one_fields (U16 m ∷ fs) (U16 n ∷ gs) r s hf hg h e =
    let later = one_fields fs gs r s hf.1 hg.1 (cc) (cc) in
    let fm = hf.0 in
    let fn = hg.0 in
    let low : m % 256 ≡ n % 256 = cc in
    let high : m / 256 % 256 ≡ n / 256 % 256 = cc in
    let here : m ≡ n = omega arith in
    (λ i. U16 (here i) ∷ later.0 i, later.1)
one_fields (U32 m ∷ fs) (U32 n ∷ gs) r s hf hg h e =
    let later = one_fields fs gs r s hf.1 hg.1 (cc) (cc) in
    let fm = hf.0 in
    let fn = hg.0 in
    let first : m % 256 ≡ n % 256 = cc in
    let second : m / 256 % 256 ≡ n / 256 % 256 = cc in
    let third : m / 65536 % 256 ≡ n / 65536 % 256 = cc in
    let fourth : m / 16777216 % 256 ≡ n / 16777216 % 256 = cc in
    let here : m ≡ n = omega arith in
    (λ i. U32 (here i) ∷ later.0 i, later.1)
one_fields (Raw m ∷ fs) (Raw n ∷ gs) r s hf hg h e =
    let len : length m ≡ length n = cc in
    let x = followed fs r in
    let y = followed gs s in
    let here : m ≡ n = sym (take_at m x (length m) refl) ∙ ap (take (length m)) e ∙ take_at n y (length m) (sym len) in
    let tail : x ≡ y = sym (drop_at m x (length m) refl) ∙ ap (drop (length m)) e ∙ drop_at n y (length m) (sym len) in
    let later = one_fields fs gs r s hf.1 hg.1 (cc) tail in
    (λ i. Raw (here i) ∷ later.0 i, later.1)
one_fields [] (g ∷ gs) r s hf hg h e = absurd cc
one_fields (f ∷ fs) [] r s hf hg h e = absurd cc
one_fields (U8 m ∷ fs) (U16 n ∷ gs) r s hf hg h e = absurd cc
one_fields (U8 m ∷ fs) (U32 n ∷ gs) r s hf hg h e = absurd cc
one_fields (U8 m ∷ fs) (Raw n ∷ gs) r s hf hg h e = absurd cc
one_fields (U16 m ∷ fs) (U8 n ∷ gs) r s hf hg h e = absurd cc
one_fields (U16 m ∷ fs) (U32 n ∷ gs) r s hf hg h e = absurd cc
one_fields (U16 m ∷ fs) (Raw n ∷ gs) r s hf hg h e = absurd cc
one_fields (U32 m ∷ fs) (U8 n ∷ gs) r s hf hg h e = absurd cc
one_fields (U32 m ∷ fs) (U16 n ∷ gs) r s hf hg h e = absurd cc
one_fields (U32 m ∷ fs) (Raw n ∷ gs) r s hf hg h e = absurd cc
one_fields (Raw m ∷ fs) (U8 n ∷ gs) r s hf hg h e = absurd cc
one_fields (Raw m ∷ fs) (U16 n ∷ gs) r s hf hg h e = absurd cc
one_fields (Raw m ∷ fs) (U32 n ∷ gs) r s hf hg h e = absurd cc

-- the number, or the bytes, of a field at a place
abbrev pub number_in : Field → ℕ
number_in (U8 n) = n
number_in (U16 n) = n
number_in (U32 n) = n
number_in (Raw bytes) = 0

abbrev pub bytes_in : Field → List ℕ
bytes_in (U8 n) = []
bytes_in (U16 n) = []
bytes_in (U32 n) = []
bytes_in (Raw bytes) = bytes

abbrev pub number : List Field → ℕ → ℕ
number fs i = number_in (get_or fs i (U8 0))

abbrev pub raw : List Field → ℕ → List ℕ
raw fs i = bytes_in (get_or fs i (U8 0))
