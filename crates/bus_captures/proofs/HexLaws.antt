-- Readings of a text in hex, by its front.
use Rattle.std.{proofs.Common.{◌≡◌, ℕ, ◌≤◌, ◌++◌, true, false, List, [], ◌∷◌, arith, inl, inr, refl, ap, append_assoc, sym, ◌∙◌}, proofs.lemmas.Bool.Decides.{nat_tests}}
use Rattle.bus_captures.{specs.Sorts.{is_space}, specs.Hex.{IsDigit, IsByte, IsHex}, specs.Fronts.{IsPassed, IsSplit}}

space_is_low : (b : ℕ) → is_space b ≡ true → b ≤ 32
space_is_low b h = grind (arith, nat_tests)

digit_is_high : (b v : ℕ) → IsDigit b v → 48 ≤ b
digit_is_high b v h = elim h [ inl a ↦ omega arith | inr x ↦ elim x [ inl a ↦ omega arith | inr a ↦ omega arith ] ]

x_is_no_digit : (c v : ℕ) → c ≡ 120 → IsDigit c v → ⊥
x_is_no_digit c v e h = elim h [ inl a ↦ omega arith | inr x ↦ elim x [ inl a ↦ omega arith | inr a ↦ omega arith ] ]

one_value : (b v w : ℕ) → IsDigit b v → IsDigit b w → v ≡ w
one_value b v w h k = elim h [
  | inl a ↦ elim k [ inl e ↦ omega arith | inr y ↦ elim y [ inl e ↦ omega arith | inr e ↦ omega arith ] ]
  | inr x ↦ elim x [
    | inl a ↦ elim k [ inl e ↦ omega arith | inr y ↦ elim y [ inl e ↦ omega arith | inr e ↦ omega arith ] ]
    | inr a ↦ elim k [ inl e ↦ omega arith | inr y ↦ elim y [ inl e ↦ omega arith | inr e ↦ omega arith ] ]
  ]
]

one_byte : (b c m n : ℕ) → IsByte b c m → IsByte b c n → m ≡ n
one_byte b c m n h k =
    let same_high = one_value b h.0 k.0 h.2 k.2 in
    let same_low = one_value c h.1 k.1 h.3 k.3 in
    let e = h.4 in
    let f = k.4 in
    omega arith

space_there : (b : ℕ) (left : List ℕ) → is_space b ≡ true → (bytes : List ℕ) → IsHex (b ∷ left) bytes → IsHex left bytes
space_there b [] space bytes h = h.1
space_there b (c ∷ text) space bytes h =
    let low = space_is_low b space in
    elim h [
      | inl a ↦ a.1
      | inr x ↦ elim x [ inl m ↦ absurd (omega arith) | inr p ↦ absurd (let high = digit_is_high b p.2.0 p.2.2 in omega arith) ]
    ]

space_back : (b : ℕ) (left : List ℕ) → is_space b ≡ true → (bytes : List ℕ) → IsHex left bytes → IsHex (b ∷ left) bytes
space_back b [] space bytes h = (space, h)
space_back b (c ∷ text) space bytes h = inl (space, h)

-- a space is passed over
pub space_passes : (text left : List ℕ) (b : ℕ) → text ≡ b ∷ left → is_space b ≡ true → IsPassed text left
space_passes text left b e space =
    rw e (record {
      shorter = omega arith;
      there = space_there b left space;
      back = space_back b left space;
    })

mark_there : (b c : ℕ) (left : List ℕ) → b ≡ 48 → c ≡ 120 → (bytes : List ℕ) → IsHex (b ∷ c ∷ left) bytes → IsHex left bytes
mark_there b c left zero x bytes h =
    elim h [
      | inl a ↦ absurd (let low = space_is_low b a.0 in omega arith)
      | inr y ↦ elim y [ inl m ↦ m.2 | inr p ↦ absurd (x_is_no_digit c p.2.1 x p.2.3) ]
    ]

-- `0x` is passed over
pub mark_passes : (text behind left : List ℕ) (b c : ℕ) → text ≡ b ∷ behind → behind ≡ c ∷ left → b ≡ 48 → c ≡ 120 → IsPassed text left
mark_passes text behind left b c e f zero x =
    rw (e, f) (record {
      shorter = omega arith;
      there = mark_there b c left zero x;
      back = λ bytes h. inr (inl (zero, x, h));
    })

byte_there : (b c byte : ℕ) (left : List ℕ) → is_space b ≡ false → IsByte b c byte → (bytes : List ℕ) → IsHex (b ∷ c ∷ left) bytes
    → (more : List ℕ) × (bytes ≡ byte ∷ more) × IsHex left more
byte_there b c byte left other is bytes h =
    elim h [
      | inl a ↦ absurd (let same = a.0 in cc)
      | inr y ↦ elim y [
        | inl m ↦ absurd (x_is_no_digit c is.1 m.1 is.3)
        | inr p ↦ (p.1, p.3 ∙ ap (λ n. n ∷ p.1) (one_byte b c p.0 byte p.2 is), p.4)
      ]
    ]

-- two digits are a byte
pub byte_splits : (text behind left : List ℕ) (b c byte : ℕ) → text ≡ b ∷ behind → behind ≡ c ∷ left → is_space b ≡ false → IsByte b c byte → IsSplit text byte left
byte_splits text behind left b c byte e f other is =
    rw (e, f) (record {
      shorter = omega arith;
      there = byte_there b c byte left other is;
      back = λ more h. inr (inr (byte, more, is, refl, h));
    })

-- two bytes that are other space, other mark and other digits are other hex
pub two_bytes_are_none : (text behind left : List ℕ) (b c : ℕ) → text ≡ b ∷ behind → behind ≡ c ∷ left → is_space b ≡ false → ((b ≡ 48) × (c ≡ 120) → ⊥)
    → ((byte : ℕ) → IsByte b c byte → ⊥) → (bytes : List ℕ) → IsHex text bytes → ⊥
two_bytes_are_none text behind left b c e f other no_mark no_byte bytes h =
    let k : IsHex (b ∷ c ∷ left) bytes = rw (e, f) at h in
    elim k [
      | inl a ↦ (let space = a.0 in cc)
      | inr y ↦ elim y [ inl m ↦ no_mark (m.0, m.1) | inr p ↦ no_byte p.0 p.2 ]
    ]

-- one more byte of a text in hex is read
pub one_more_byte : (text left rest so_far : List ℕ) (byte : ℕ) → IsSplit left byte rest
    → ((more : List ℕ) → IsHex left more → IsHex text (so_far ++ more)) → ((more : List ℕ) → IsHex rest more → IsHex text ((so_far ++ byte ∷ []) ++ more))
one_more_byte text left rest so_far byte split back more h =
    rw (append_assoc so_far (byte ∷ []) more) (back (byte ∷ more) (split.back more h))

pub one_more_there : (text left rest so_far : List ℕ) (byte : ℕ) → IsSplit left byte rest
    → ((all : List ℕ) → IsHex text all → (more : List ℕ) × (all ≡ so_far ++ more) × IsHex left more)
    → ((all : List ℕ) → IsHex text all → (more : List ℕ) × (all ≡ (so_far ++ byte ∷ []) ++ more) × IsHex rest more)
one_more_there text left rest so_far byte split there all h =
    let k = there all h in
    let s = split.there k.0 k.2 in
    (s.0, k.1 ∙ ap (λ xs. so_far ++ xs) s.1 ∙ sym (append_assoc so_far (byte ∷ []) s.0), s.2)
