-- Flags as the numbers 0 and 1.
use Rattle.std.{specs.Prelude.{◌≡◌, ◌≤◌, Bool, true, false, refl}, proofs.Common.{arith}}
use Rattle.mctp_transport.specs.PacketValues.{bit}

-- a flag is 0 or 1
pub bit_most : (b : Bool) → bit b ≤ 1
bit_most true = omega arith
bit_most false = omega arith

-- and says which it is
pub bit_one : (a b : Bool) → bit a ≡ bit b → a ≡ b
bit_one true true e = refl
bit_one false false e = refl
bit_one true false e = absurd (omega arith)
bit_one false true e = absurd (omega arith)
