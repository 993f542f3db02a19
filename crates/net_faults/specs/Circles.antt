-- Circles of moves, each from its least index.
use Rattle.std.specs.Prelude.{◌≡◌, ℕ, ◌+◌, ◌<◌, ◌≤◌, List, Option, slice_get, Some, unwrap_or}
use Rattle.net_rules.{specs.Moves.{Leads}, specs.Circles.{IsOnCircle, IsLoopFrom, MovesBy}}

-- n is one of the places
abbrev pub IsAmong : List ℕ → ℕ → Type 0
IsAmong places n = (i : ℕ) × (slice_get places i ≡ Some n)

-- each place but the last moves to the one after it
abbrev pub AreJoined : (ℕ → ℕ → Type 0) → List ℕ → Type 0
AreJoined Move places = (i n m : ℕ) → slice_get places i ≡ Some n → slice_get places (i + 1) ≡ Some m → Move n m

-- A loop from an index up to the first return to it, with no lesser index on it.
pub record IsCircle (Move : ℕ → ℕ → Type 0) (first : ℕ) (places : List ℕ) : Type 0 where
  pub loop : IsLoopFrom Move first places
  pub least : (n : ℕ) → IsAmong places n → first ≤ n

-- if the index is on a circle, its moves lead to a lesser one
abbrev pub IsNotLeast : (ℕ → ℕ → Type 0) → ℕ → Type 0
IsNotLeast Move first = IsOnCircle Move first → (k n : ℕ) × Leads Move first k n × (n < first)

-- the height at an index; 0 beyond the list
abbrev pub height_in : List ℕ → ℕ → ℕ
height_in heights n = unwrap_or (slice_get heights n) 0

-- the move from an index, if there is one, leads to a lesser height
abbrev pub FallsFrom : List (Option ℕ) → List ℕ → ℕ → Type 0
FallsFrom table heights n = (p : ℕ) → MovesBy table n p → height_in heights p < height_in heights n
