-- The check byte of a record. Numbers stand for polynomials over bits: bit i is the coefficient of x to
-- the i, and the sum of two is `bit_xor`.
use Rattle.std.specs.Prelude.{◌≡◌, ℕ, ◌+◌, ◌*◌, ◌^◌, ◌<◌, List, [], ◌∷◌, length, bit_xor}

-- the polynomial of some bytes: their bits in order, the first byte's highest bit first
abbrev pub polynomial : List ℕ → ℕ
polynomial [] = 0
polynomial (b ∷ bs) = b * 256 ^ length bs + polynomial bs

-- q times x^8 + x^2 + x + 1
abbrev pub times_generator : ℕ → ℕ
times_generator q = bit_xor (256 * q) (bit_xor (4 * q) (bit_xor (2 * q) q))

-- crc is the remainder of the bytes times x^8 by x^8 + x^2 + x + 1: of a degree below 8, and for some quotient q the
-- sum of q times that and crc is the dividend
unfoldable pub IsCrc : List ℕ → ℕ → Type 0
IsCrc bytes crc = (q : ℕ) × (bit_xor (times_generator q) crc ≡ 256 * polynomial bytes) × (crc < 256)
