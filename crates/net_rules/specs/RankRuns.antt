-- Ranks as ranges: the longest runs of neighboring EIDs of one rank.
use Rattle.std.specs.Prelude.{◌≡◌, ◌≢◌, ℕ, ◌+◌, ◌-◌, ◌<◌, ◌≤◌, List, [], length, slice_get, Some, nat_lt, if◌then◌else◌}
use Rattle.plan_values.{specs.declared.certificate.RankRange.{RankRange}, specs.declared.certificate.NodeRanks.{NodeRanks}}

abbrev pub LiesIn : RankRange → ℕ → Type 0
LiesIn range e = (range.first.value ≤ e) × (e < range.first.value + range.size)

-- All EIDs of the range have its rank, and its neighbors on both sides have another.
pub record IsLongestRun (ranks : ℕ → ℕ) (range : RankRange) : Type 0 where
  pub same : (e : ℕ) → LiesIn range e → ranks e ≡ range.rank
  pub before : (e : ℕ) → e + 1 ≡ range.first.value → ranks e ≢ range.rank
  pub after : ranks (range.first.value + range.size) ≢ range.rank

-- The ranges are the longest runs of neighboring EIDs of equal rank above 0, all of them, in order.
pub record AreLongestRuns (ranks : ℕ → ℕ) (ranges : List RankRange) : Type 0 where
  pub runs : (i : ℕ) (range : RankRange) → slice_get ranges i ≡ Some range → IsLongestRun ranks range
  pub ascend : (i j : ℕ) (one other : RankRange) → i < j → slice_get ranges i ≡ Some one
      → slice_get ranges j ≡ Some other → one.first.value + one.size ≤ other.first.value
  pub all : (e : ℕ) → 0 < ranks e → (i : ℕ) × (range : RankRange) × (slice_get ranges i ≡ Some range) × LiesIn range e

-- the ranks of the EIDs below a bound, 0 from there on
abbrev pub below : ℕ → (ℕ → ℕ) → ℕ → ℕ
below bound ranks e = if nat_lt e bound then ranks e else 0

-- the range has the rank, and ends just before e
unfoldable pub Precedes : RankRange → ℕ → ℕ → Type 0
Precedes range e rank = (range.rank ≡ rank) × (range.first.value + range.size ≡ e)

-- the last range has the rank, and ends just before e
abbrev pub Continues : List RankRange → ℕ → ℕ → Type 0
Continues ranges e rank =
    (last : RankRange) × (slice_get ranges (length ranges - 1) ≡ Some last) × Precedes last e rank

-- each of so many nodes, by its index, has no ranges
abbrev pub AreNone : ℕ → List NodeRanks → Type 0
AreNone count given = (length given ≡ count)
    × ((n : ℕ) (one : NodeRanks) → slice_get given n ≡ Some one → (one.node ≡ n) × (one.ranges.items ≡ []))

-- The longest runs of the EIDs below first become those of the EIDs up to last, where all from first to last have this
-- rank.
abbrev pub GrowsBy : (first last rank : ℕ) → List RankRange → List RankRange → Type 0
GrowsBy first last rank old new = (ranks : ℕ → ℕ) → ((e : ℕ) → first ≤ e → e ≤ last → ranks e ≡ rank)
    → AreLongestRuns (below first ranks) old → AreLongestRuns (below (last + 1) ranks) new

-- To a node's longest runs below first the rank of the EIDs from first to last was added.
pub record IsGrown (first last rank : ℕ) (old new : NodeRanks) : Type 0 where
  pub node : new.node ≡ old.node
  pub longest : GrowsBy first last rank old.ranges.items new.ranges.items

abbrev pub AreGrown : (first last : ℕ) → List ℕ → List NodeRanks → List NodeRanks → Type 0
AreGrown first last counts old new = (length new ≡ length old)
    × ((n rank : ℕ) (one other : NodeRanks) → slice_get counts n ≡ Some rank → slice_get old n ≡ Some one
    → slice_get new n ≡ Some other → IsGrown first last rank one other)
