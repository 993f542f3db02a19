use Rattle.std.proofs.Common.{ℕ, ◌<◌}
use Rattle.net_tables.{specs.Routing.{OfItem, Covers}, specs.Ranks.{Falls}}
use Rattle.net_rules.proofs.rules.ranks.first_row_without_fall.Given as goal

abbrev pub invariant-loop-r : goal.invariant-loop-r
invariant-loop-r l = (k : ℕ) → k < l.r → OfItem l.rows k (λ row. (e : ℕ) → Covers row e → Falls l.plan l.ranks l.node row e)
