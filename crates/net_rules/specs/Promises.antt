-- What accepted ranks promise of following rows.
use Rattle.std.specs.Prelude.{◌⊎◌, ℕ, ◌+◌, ◌≤◌}
use Rattle.plan_values.{specs.declared.plan.Plan.{Plan}, specs.declared.certificate.Certificate.{Certificate}}
use Rattle.net_tables.{specs.Routing.{Holds, HasRow, MovesTo}, specs.Ranks.{rank}}
use Rattle.net_rules.specs.Moves.{Leads, IsEnd}

-- the way for e ends at n: n holds e, or has no row for it
abbrev pub WayEnds : Plan → ℕ → ℕ → Type 0
WayEnds plan e n = Holds plan n e ⊎ ¬ HasRow plan n e

-- Following rows from n for e makes at most rank(n, e) moves, and ends at a holder of e or at a node without a row
-- for e.
pub record EndsWithinRank (plan : Plan) (cert : Certificate) : Type 0 where
  -- no way is longer: each move takes at least one from the rank
  pub within : (e n moves m : ℕ) → Leads (MovesTo plan e) n moves m → moves + rank cert m e ≤ rank cert n e
  -- where no further move leads on, the way ends
  pub stops : (e m : ℕ) → IsEnd (MovesTo plan e) m → WayEnds plan e m
  -- and it ends somewhere
  pub ends : (e n : ℕ) → (moves m : ℕ) × Leads (MovesTo plan e) n moves m × (moves ≤ rank cert n e) × WayEnds plan e m
