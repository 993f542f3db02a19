-- Where rows of either of two plans lead what is for an EID, while nodes move from one plan to the other.
use Rattle.std.specs.Prelude.{◌⊎◌, ◌↔◌, ℕ, ◌<◌, ◌≤◌}
use Rattle.net_rules.{specs.declared.mixed_loop.MixedLoop.{MixedLoop}, specs.Moves.{Leads}, specs.Circles.{HasNoCircle}, specs.MixedLoops.{EitherOf, IsMixedLoop}}
use Rattle.plan_values.specs.declared.plan.Plan.{Plan}
use Rattle.net_tables.{specs.Routing.{Holds, MovesTo}, specs.TwoPlans.{moving, HasRowEver}}

-- what is for e may move on from n to m: along a row of one of the plans
abbrev pub MayMoveTo : Plan → Plan → ℕ → ℕ → ℕ → Type 0
MayMoveTo before after e = EitherOf (MovesTo before e) (MovesTo after e)

-- a way for e ends at n: n holds e, or has a row for it in neither plan
abbrev pub WayEndsInBoth : Plan → Plan → ℕ → ℕ → Type 0
WayEndsInBoth before after e n = Holds before n e ⊎ ¬ HasRowEver (moving before after) n e

-- The longest way along rows of either plan, from n to a holder of e or to a node without a row for e, has so many
-- moves.
pub record IsMoveRank (before after : Plan) (n e moves : ℕ) : Type 0 where
  pub way : (m : ℕ) × Leads (MayMoveTo before after e) n moves m × WayEndsInBoth before after e m
  pub longest : (l m : ℕ) → Leads (MayMoveTo before after e) n l m → WayEndsInBoth before after e m → l ≤ moves

-- The least EID that can circle, and the loop of it.
pub record IsFirstMixedLoop (before after : Plan) (loop : MixedLoop) : Type 0 where
  pub least : (d : ℕ) → d < loop.eid.value → HasNoCircle (MayMoveTo before after d)
  pub picked : IsMixedLoop (MovesTo before loop.eid.value) (MovesTo after loop.eid.value) loop.nodes.items
      loop.sides.items

-- the same nodes hold each EID in both plans
abbrev pub HoldTheSame : Plan → Plan → Type 0
HoldTheSame before after = (n e : ℕ) → Holds before n e ↔ Holds after n e
