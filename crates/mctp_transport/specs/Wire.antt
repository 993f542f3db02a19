-- Which bytes are a value's.
use Rattle.std.specs.Prelude.{◌≡◌, ℕ, List}

-- the value fits its bits, and the bytes are its spelling, all of them
abbrev pub Spells : {V : Type 0} → (V → Type 0) → (V → List ℕ) → V → List ℕ → Type 0
Spells lawful spelling v bytes = lawful v × (bytes ≡ spelling v)
