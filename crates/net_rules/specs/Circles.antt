-- Where moves from index to index lead: to an end, or round a circle.
use Rattle.std.specs.Prelude.{◌≡◌, ◌≢◌, ℕ, suc, ◌+◌, ◌-◌, ◌<◌, ◌≤◌, List, length, slice_get, Option, Some, option_and_then}
use Rattle.net_rules.{specs.declared.certifying.walks.Walked.{Walked}, specs.declared.certifying.walks.Walked.TheVariants.{Ended, Circled}, specs.Moves.{Leads, IsEnd}}

-- so many moves lead from n to an index that no move leaves
abbrev pub EndsAfter : (ℕ → ℕ → Type 0) → ℕ → ℕ → Type 0
EndsAfter Move n k = (m : ℕ) × Leads Move n k m × IsEnd Move m

-- some moves, one at least, lead from n back to n
abbrev pub IsOnCircle : (ℕ → ℕ → Type 0) → ℕ → Type 0
IsOnCircle Move n = (k : ℕ) × Leads Move n (suc k) n

abbrev pub HasNoCircle : (ℕ → ℕ → Type 0) → Type 0
HasNoCircle Move = (n : ℕ) → ¬ IsOnCircle Move n

abbrev pub HasCircle : (ℕ → ℕ → Type 0) → Type 0
HasCircle Move = (n : ℕ) × IsOnCircle Move n

-- A loop: at least two places, the last is the first, and each but the last moves to the one after it.
pub record IsLoop (Move : ℕ → ℕ → Type 0) (places : List ℕ) : Type 0 where
  pub two : 2 ≤ length places
  pub closed : slice_get places (length places - 1) ≡ slice_get places 0
  pub joined : (i n m : ℕ) → slice_get places i ≡ Some n → slice_get places (i + 1) ≡ Some m → Move n m

-- A loop from an index up to the first return to it.
pub record IsLoopFrom (Move : ℕ → ℕ → Type 0) (first : ℕ) (places : List ℕ) : Type 0 where
  pub loop : IsLoop Move places
  pub starts : slice_get places 0 ≡ Some first
  pub once : (i : ℕ) → 0 < i → i + 1 < length places → slice_get places i ≢ Some first

-- the index is on a circle, and no lesser one is
abbrev pub IsLeastOnCircle : (ℕ → ℕ → Type 0) → ℕ → Type 0
IsLeastOnCircle Move first = IsOnCircle Move first × ((n : ℕ) → IsOnCircle Move n → first ≤ n)

-- the loop from the least index on a circle
abbrev pub IsLeastLoop : (ℕ → ℕ → Type 0) → List ℕ → Type 0
IsLeastLoop Move places = (first : ℕ) × IsLeastOnCircle Move first × IsLoopFrom Move first places

-- moves by a table: each index's next index, if any
abbrev pub next_in : List (Option ℕ) → ℕ → Option ℕ
next_in table n = option_and_then (λ next. next) (slice_get table n)

abbrev pub MovesBy : List (Option ℕ) → ℕ → ℕ → Type 0
MovesBy table n m = next_in table n ≡ Some m

-- the counts are the numbers of moves from each of so many places to its end
abbrev pub AreMovesToEnds : (ℕ → ℕ → Type 0) → ℕ → List ℕ → Type 0
AreMovesToEnds Move places counts =
    (length counts ≡ places) × ((n k : ℕ) → slice_get counts n ≡ Some k → EndsAfter Move n k)

-- each number that is given for an index is that of the moves from it to its end
abbrev pub AreKnown : (ℕ → ℕ → Type 0) → List (Option ℕ) → Type 0
AreKnown Move known = (n k : ℕ) → slice_get known n ≡ Some (Some k) → EndsAfter Move n k

-- either no index is on a circle, and these are the numbers of moves to the ends; or this is the loop from the least
-- index on a circle
abbrev pub IsWalked : (ℕ → ℕ → Type 0) → ℕ → Walked → Type 0
IsWalked Move places (Ended counts) = HasNoCircle Move × AreMovesToEnds Move places counts.items
IsWalked Move places (Circled loop) = IsLeastLoop Move loop.items
