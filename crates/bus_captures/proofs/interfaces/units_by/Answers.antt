use Rattle.std.{proofs.Common.{◌≡◌, ◌<◌, ◌^◌, ◌*◌, ℕ, zero, suc, arith}, proofs.Math.Nat.{pow-suc}}
use Rattle.bus_captures.proofs.interfaces.units_by.Goals as goal

-- a power of ten is more than nothing
some : (n : ℕ) → 0 < 10 ^ n
some zero = omega arith
some (suc n) = let h = some n in let e : 10 ^ suc n ≡ 10 ^ n * 10 = pow-suc 10 n in omega arith

pub invariant_of-result : goal.invariant_of-result
invariant_of-result c = record { some = let h = some c.from.result in let e = c.pow.ensures in omega (arith, h, e) }
