-- Loops of moves, each by one of two relations.
use Rattle.std.specs.Prelude.{◌≡◌, ◌≢◌, ◌⊎◌, ◌↔◌, ℕ, suc, ◌+◌, ◌-◌, ◌<◌, ◌≤◌, List, length, slice_get, Vec, Option, Some, Bool, true, false, unwrap_or, option_map}
use Rattle.net_rules.{specs.declared.mixed_loop.Side.{Side}, specs.declared.mixed_loop.Side.TheVariants.{Old, New}, specs.Moves.{Leads}, specs.Circles.{IsLeastOnCircle}}

-- a move by either of the two
abbrev pub EitherOf : (ℕ → ℕ → Type 0) → (ℕ → ℕ → Type 0) → ℕ → ℕ → Type 0
EitherOf ByOld ByNew n m = ByOld n m ⊎ ByNew n m

-- a move by the one that is named
abbrev pub MovesOn : Side → (ℕ → ℕ → Type 0) → (ℕ → ℕ → Type 0) → ℕ → ℕ → Type 0
MovesOn Old ByOld ByNew n m = ByOld n m
MovesOn New ByOld ByNew n m = ByNew n m

-- A loop from the least index on a circle back to it: of those that have the fewest moves, the one that moves by the
-- old relation wherever that leads back in as few.
pub record IsMixedLoop (ByOld ByNew : ℕ → ℕ → Type 0) (nodes : List ℕ) (sides : List Side) : Type 0 where
  pub first : ℕ
  pub least : IsLeastOnCircle (EitherOf ByOld ByNew) first
  -- the first index stands at both ends, and each move has its side
  pub some : 0 < length sides
  pub long : length nodes ≡ length sides + 1
  pub starts : slice_get nodes 0 ≡ Some first
  pub closed : slice_get nodes (length sides) ≡ Some first
  pub joined : (i n m : ℕ) (side : Side) → slice_get nodes i ≡ Some n → slice_get nodes (i + 1) ≡ Some m
      → slice_get sides i ≡ Some side → MovesOn side ByOld ByNew n m
  -- no other index stands there twice, so that each moves by one side
  pub once : (i j n : ℕ) → i < j → j < length sides → slice_get nodes i ≡ Some n → slice_get nodes j ≢ Some n
  -- no way back to the first index is shorter
  pub shortest : (k : ℕ) → Leads (EitherOf ByOld ByNew) first (suc k) first → length sides ≤ suc k
  -- where it moves by the new relation, no move by the old one leads back in as few
  pub old_first : (i n m : ℕ) → slice_get nodes i ≡ Some n → slice_get sides i ≡ Some New → ByOld n m
      → ¬ Leads (EitherOf ByOld ByNew) m (length sides - (i + 1)) first

-- the mark of an index; none beyond the list
abbrev pub is_marked : List Bool → ℕ → Bool
is_marked marks n = unwrap_or (slice_get marks n) false

-- whether the next index is marked, where there is one
abbrev pub leads_to_mark : List Bool → Option ℕ → Bool
leads_to_mark marks next = unwrap_or (option_map (is_marked marks) next) false

-- just those indices are marked that have the property
abbrev pub AreMarked : (ℕ → Type 0) → List Bool → Type 0
AreMarked P marks = (n : ℕ) → (is_marked marks n ≡ true) ↔ P n

-- at each place k of the list those indices are marked from which k moves lead to the first index
abbrev pub AreWaysBack : {Z : Type 0} → (ℕ → ℕ → Type 0) → ℕ → List (Vec Bool Z) → Type 0
AreWaysBack {Z} Move first layers =
    (k : ℕ) (marks : Vec Bool Z) → slice_get layers k ≡ Some marks → AreMarked (λ n. Leads Move n k first) marks.items

-- The list ends with the first return: so many moves lead back to the first index, and no fewer do, but for none.
pub record IsFirstReturn {Z : Type 0} (Move : ℕ → ℕ → Type 0) (first : ℕ) (layers : List (Vec Bool Z)) : Type 0 where
  pub some : 2 ≤ length layers
  pub ways : AreWaysBack Move first layers
  pub back : Leads Move first (length layers - 1) first
  pub none : (k : ℕ) → 0 < k → k + 1 < length layers → ¬ Leads Move first k first
