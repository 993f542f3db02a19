-- What the searches for a cause answer.
use Rattle.std.specs.Prelude.{ℕ, ◌<◌, Option, Some, None}
use Rattle.mctp_transport.specs.declared.address.Eid.{Eid}

-- the first number that is such a one, if any is
abbrev pub IsFirst : (ℕ → Type 0) → Option ℕ → Type 0
IsFirst P None = (k : ℕ) → ¬ P k
IsFirst P (Some m) = P m × ((k : ℕ) → k < m → ¬ P k)

-- the first such number below the end, if any is
abbrev pub IsFirstBelow : ℕ → (ℕ → Type 0) → Option ℕ → Type 0
IsFirstBelow end P None = (k : ℕ) → k < end → ¬ P k
IsFirstBelow end P (Some m) = (m < end) × P m × ((k : ℕ) → k < m → ¬ P k)

-- the least such endpoint ID, if any is
abbrev pub IsLeastEid : (ℕ → Type 0) → Option Eid → Type 0
IsLeastEid P None = (e : ℕ) → ¬ P e
IsLeastEid P (Some eid) = P eid.value × ((e : ℕ) → e < eid.value → ¬ P e)

-- the first number below the end that has such endpoint IDs, and the least of them, if any has
abbrev pub IsFirstWithEid : ℕ → (ℕ → ℕ → Type 0) → Option (ℕ × Eid) → Type 0
IsFirstWithEid end P None = (k e : ℕ) → k < end → ¬ P k e
IsFirstWithEid end P (Some found) =
    (found.0 < end) × P found.0 found.1.value
    × ((e : ℕ) → e < found.1.value → ¬ P found.0 e) × ((k e : ℕ) → k < found.0 → ¬ P k e)
