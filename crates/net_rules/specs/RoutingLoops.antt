-- Where rows lead what is for an EID: so many moves on, or round a loop.
use Rattle.std.specs.Prelude.{◌≡◌, ℕ, ◌<◌, List, length, slice_get, Option, Some, MatchOption}
use Rattle.plan_values.specs.declared.plan.Plan.{Plan}
use Rattle.net_tables.specs.Routing.{MovesTo}
use Rattle.net_rules.{specs.Moves.{Leads}, specs.Circles.{IsLeastLoop, HasNoCircle}, specs.Promises.{WayEnds}}

-- so many moves along rows lead what is for e from n to a holder of e, or to a node without a row for e
abbrev pub IsRank : Plan → ℕ → ℕ → ℕ → Type 0
IsRank plan n e moves = (m : ℕ) × Leads (MovesTo plan e) n moves m × WayEnds plan e m

-- The least EID that circles, the first node in plan order on a circle of it, and the next nodes back to itself.
pub record IsFirstRoutingLoop (plan : Plan) (e : ℕ) (nodes : List ℕ) : Type 0 where
  pub least : (d : ℕ) → d < e → HasNoCircle (MovesTo plan d)
  pub picked : IsLeastLoop (MovesTo plan e) nodes

-- where what is for e goes on to from n, if anywhere
abbrev pub IsNext : Plan → ℕ → ℕ → Option ℕ → Type 0
IsNext plan e n next = MatchOption next (WayEnds plan e n) (MovesTo plan e n)

-- the table has, for each of so many nodes, where what is for e goes on to
abbrev pub AreNexts : Plan → ℕ → ℕ → List (Option ℕ) → Type 0
AreNexts plan e count table =
    (length table ≡ count) × ((n : ℕ) (next : Option ℕ) → slice_get table n ≡ Some next → IsNext plan e n next)
