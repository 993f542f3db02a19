-- The longest ways of moves, each by one of two relations.
use Rattle.std.specs.Prelude.{◌≡◌, ℕ, ◌≤◌, List, length, slice_get, Option, Some, unwrap_or, option_map, suc}
use Rattle.net_rules.{specs.declared.certifying.longest_ways.Longest.{Longest}, specs.declared.certifying.longest_ways.Longest.TheVariants.{Ended, Circled}, specs.Moves.{Leads}, specs.Circles.{EndsAfter, HasNoCircle, MovesBy}, specs.MixedLoops.{EitherOf, IsMixedLoop}}

-- so many moves lead from n to an index that no move leaves, and no way to such an index has more
pub record IsLongest (Move : ℕ → ℕ → Type 0) (n k : ℕ) : Type 0 where
  pub ends : EndsAfter Move n k
  pub longest : (l : ℕ) → EndsAfter Move n l → l ≤ k

-- the counts are the numbers of moves of the longest ways from each of so many places
abbrev pub AreLongest : (ℕ → ℕ → Type 0) → ℕ → List ℕ → Type 0
AreLongest Move places counts =
    (length counts ≡ places) × ((n k : ℕ) → slice_get counts n ≡ Some k → IsLongest Move n k)

-- The counts are the numbers of moves of the longest ways of so many moves at most, whether they end there or not.
pub record AreLongestWithin (Move : ℕ → ℕ → Type 0) (most : ℕ) (counts : List ℕ) : Type 0 where
  pub few : (n k : ℕ) → slice_get counts n ≡ Some k → k ≤ most
  pub way : (n k : ℕ) → slice_get counts n ≡ Some k → (m : ℕ) × Leads Move n k m
  pub longest : (n k l m : ℕ) → slice_get counts n ≡ Some k → Leads Move n l m → l ≤ most → l ≤ k

-- some way has so many moves
abbrev pub HasWayOf : (ℕ → ℕ → Type 0) → ℕ → Type 0
HasWayOf Move k = (n m : ℕ) × Leads Move n k m

-- moves by either of two tables
abbrev pub MovesByEither : List (Option ℕ) → List (Option ℕ) → ℕ → ℕ → Type 0
MovesByEither old new = EitherOf (MovesBy old) (MovesBy new)

-- one move more than the count of the next index, which is 0 beyond the counts; 0 where there is no next
abbrev pub one_before : List ℕ → Option ℕ → ℕ
one_before counts next = unwrap_or (option_map (λ m. suc (unwrap_or (slice_get counts m) 0)) next) 0

-- either no index is on a circle, and these are the numbers of moves of the longest ways; or this is the loop from the
-- least index on a circle
abbrev pub IsLongestOrLoop : (ℕ → ℕ → Type 0) → (ℕ → ℕ → Type 0) → ℕ → Longest → Type 0
IsLongestOrLoop Old New places (Ended counts) =
    HasNoCircle (EitherOf Old New) × AreLongest (EitherOf Old New) places counts.items
IsLongestOrLoop Old New places (Circled nodes sides) = IsMixedLoop Old New nodes.items sides.items
