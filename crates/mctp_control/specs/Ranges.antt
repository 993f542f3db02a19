-- Ranges of EIDs that can be assigned (DSP0236, section 8.2).
use Rattle.std.specs.Prelude.{ℕ, ◌+◌, ◌<◌, ◌≤◌}

-- the EIDs of a range by its first and its size
abbrev pub IsWithin : ℕ → ℕ → ℕ → Type 0
IsWithin first size eid = (first ≤ eid) × (eid < first + size)

-- it isn't empty, and lies in 8 to 254
abbrev pub IsAssignableRange : ℕ → ℕ → Type 0
IsAssignableRange first size = (0 < size) × (8 ≤ first) × (first + size ≤ 255)
