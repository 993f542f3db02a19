-- Moves from index to index, one after another.
use Rattle.std.specs.Prelude.{◌≡◌, ℕ, zero, suc}

-- so many moves lead from n to m
abbrev pub Leads : (ℕ → ℕ → Type 0) → ℕ → ℕ → ℕ → Type 0
Leads Move n zero m = n ≡ m
Leads Move n (suc k) m = (p : ℕ) × Move n p × Leads Move p k m

-- no move leaves n
abbrev pub IsEnd : (ℕ → ℕ → Type 0) → ℕ → Type 0
IsEnd Move n = (p : ℕ) → ¬ Move n p
