-- Bits that stand side by side in a byte: from the byte each is known.
use Rattle.std.{specs.Prelude.{◌≡◌, ℕ, ◌<◌, ◌≤◌, ◌+◌, ◌*◌}, proofs.Common.{arith}}

-- two numbers are the same
pub record Same2 (a b a' b' : ℕ) : Type 0 where
  pub first : a ≡ a'
  pub second : b ≡ b'

-- three are
pub record Same3 (a b c a' b' c' : ℕ) : Type 0 where
  pub first : a ≡ a'
  pub second : b ≡ b'
  pub third : c ≡ c'

-- four are
pub record Same4 (a b c d a' b' c' d' : ℕ) : Type 0 where
  pub first : a ≡ a'
  pub second : b ≡ b'
  pub third : c ≡ c'
  pub fourth : d ≡ d'

-- bits 7 to 2, and 1 to 0
pub digits_4 : (a b a' b' : ℕ) → b < 4 → b' < 4 → 4 * a + b ≡ 4 * a' + b' → Same2 a b a' b'
digits_4 a b a' b' hb hb' e = record { first = omega arith; second = omega arith }

-- bits 7 and 6, bit 5, and bits 4 to 0
pub digits_64_32 : (a b c a' b' c' : ℕ) → b ≤ 1 → c < 32 → b' ≤ 1 → c' < 32
    → 64 * a + 32 * b + c ≡ 64 * a' + 32 * b' + c' → Same3 a b c a' b' c'
digits_64_32 a b c a' b' c' hb hc hb' hc' e = record { first = omega arith; second = omega arith; third = omega arith }

-- four times two bits
pub digits_pairs : (a b c d a' b' c' d' : ℕ) → b < 4 → c < 4 → d < 4 → b' < 4 → c' < 4 → d' < 4
    → 64 * a + 16 * b + 4 * c + d ≡ 64 * a' + 16 * b' + 4 * c' + d' → Same4 a b c d a' b' c' d'
digits_pairs a b c d a' b' c' d' hb hc hd hb' hc' hd' e =
    record { first = omega arith; second = omega arith; third = omega arith; fourth = omega arith }
