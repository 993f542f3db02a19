-- How many owners stand above each node, and loops of owners.
use Rattle.std.specs.Prelude.{◌≡◌, ℕ, ◌≤◌, List, length, slice_get, Some}
use Rattle.plan_values.specs.declared.plan.Plan.{Plan}
use Rattle.net_tables.specs.Ownership.{IsOwnedBy}
use Rattle.net_rules.specs.Circles.{EndsAfter, HasNoCircle, IsLoop, IsLeastLoop}

-- so many owners stand above n: its owner, the owner of that, and so on to a node without one
abbrev pub IsLevel : Plan → ℕ → ℕ → Type 0
IsLevel plan n count = EndsAfter (IsOwnedBy plan) n count

-- at least two places, the last is the first, and each but the last is owned by the one after it
abbrev pub IsOwnerLoop : Plan → List ℕ → Type 0
IsOwnerLoop plan nodes = IsLoop (IsOwnedBy plan) nodes

-- the owner loop from the first node that is on one, up to the first return to it
abbrev pub IsFirstOwnerLoop : Plan → List ℕ → Type 0
IsFirstOwnerLoop plan nodes = IsLeastLoop (IsOwnedBy plan) nodes

-- The levels of the plan's nodes, in their order: no node stands above itself, and none is of a level over 63.
pub record AreLevels (plan : Plan) (levels : List ℕ) : Type 0 where
  pub no_loop : HasNoCircle (IsOwnedBy plan)
  pub long : length levels ≡ length plan.nodes.items
  pub exact : (n count : ℕ) → slice_get levels n ≡ Some count → IsLevel plan n count
  pub few : (n count : ℕ) → slice_get levels n ≡ Some count → count ≤ 63
