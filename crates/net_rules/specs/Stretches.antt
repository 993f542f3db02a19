-- Stretches of endpoint IDs, each from its first to before its end, and what is said of them.
use Rattle.std.specs.Prelude.{◌≡◌, ◌↔◌, ℕ, ◌<◌, ◌≤◌, Option, Some, None}

-- the fact holds all along the stretch, or nowhere on it
abbrev pub IsStretch : (ℕ → Type 0) → ℕ → ℕ → Type 0
IsStretch P first end = (first < end) × ((e : ℕ) → first ≤ e → e < end → P e ↔ P first)

-- the number is the same all along the stretch
abbrev pub IsAlong : (ℕ → ℕ) → ℕ → ℕ → ℕ → Type 0
IsAlong number first end same = (first < end) × ((e : ℕ) → first ≤ e → e < end → number e ≡ same)

-- the least number from first to before end of which the fact fails, if any
abbrev pub IsLeastFailure : (ℕ → Type 0) → ℕ → ℕ → Option ℕ → Type 0
IsLeastFailure P first end None = (e : ℕ) → first ≤ e → e < end → P e
IsLeastFailure P first end (Some e) = (first ≤ e) × (e < end) × ¬ P e × ((d : ℕ) → first ≤ d → d < e → P d)
