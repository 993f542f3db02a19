use Rattle.std.proofs.Common.{ℕ, ◌<◌}
use Rattle.net_tables.specs.Routing.{OfItem, Covers}
use Rattle.net_faults.proofs.next_nodes.next_node.Given as goal

abbrev pub invariant-loop-row : goal.invariant-loop-row
invariant-loop-row l = (k : ℕ) → k < l.row-index → OfItem l.rows k (λ row. ¬ Covers row l.eid.value)
