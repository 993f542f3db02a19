use Rattle.net_tables.specs.Tables.{AreTabled}
use Rattle.net_tables.proofs.node_tables.routing_tables.Given as goal

abbrev pub invariant-loop-node : goal.invariant-loop-node
invariant-loop-node l = AreTabled l.plan l.node l.tables.items
