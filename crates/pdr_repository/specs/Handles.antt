-- Handles in ascending order, among which one is found by halving.
use Rattle.std.{specs.Prelude.{◌≡◌, ℕ, ◌<◌, ◌≤◌, List, length, slice_index, Result, MatchResult, ◌==◌}, specs.List.{list_any}}
use Rattle.pdr_repository.specs.Records.{handle_in}

-- the handles are those of the records, each of them and no other
abbrev pub AreHandlesOf : List (List ℕ) → List ℕ → Type 0
AreHandlesOf records handles =
    (handle : ℕ) → list_any (λ h. h == handle) handles ≡ list_any (λ bytes. handle_in bytes == handle) records

-- no handle before the place is greater, and none from the place on is less
abbrev pub IsPlaceFor : List ℕ → ℕ → ℕ → Type 0
IsPlaceFor handles handle place =
    (place ≤ length handles)
    × ((i : ℕ) → i < place → slice_index handles i ≤ handle)
    × ((i : ℕ) → place ≤ i → i < length handles → handle ≤ slice_index handles i)

-- where a handle stands, or between which two it is to be inserted
abbrev pub StandsAt : List ℕ → ℕ → Result ℕ ℕ → Type 0
StandsAt handles handle place =
    MatchResult place (λ at. (at < length handles) × (slice_index handles at ≡ handle))
    (λ at. (at ≤ length handles)
    × ((i : ℕ) → i < at → slice_index handles i < handle)
    × ((i : ℕ) → at ≤ i → i < length handles → handle < slice_index handles i))
