use Rattle.std.proofs.Common.{ℕ, ◌<◌}
use Rattle.net_tables.{specs.Routing.{OfItem}, specs.Rows.{NamesNeighbor}}
use Rattle.net_rules.proofs.rules.rows.first_without_neighbor.Given as goal

abbrev pub invariant-loop-r : goal.invariant-loop-r
invariant-loop-r l = (k : ℕ) → k < l.r → OfItem l.rows k (NamesNeighbor l.plan l.node)
