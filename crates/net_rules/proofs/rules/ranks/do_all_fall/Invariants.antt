use Rattle.std.proofs.Common.{ℕ, ◌<◌}
use Rattle.net_tables.{specs.Routing.{OfItem, Covers}, specs.Ranks.{Falls}}
use Rattle.net_rules.proofs.rules.ranks.do_all_fall.Given as goal

abbrev pub invariant-loop-row : goal.invariant-loop-row
invariant-loop-row l = (k : ℕ) → k < l.row-index → OfItem l.rows k (λ row. (e : ℕ) → Covers row e → Falls l.plan l.ranks l.node row e)
