use Rattle.net_faults.proofs.NextLaws.{AreTablesBelow}
use Rattle.net_faults.proofs.next_nodes.next_tables.Given as goal

abbrev pub invariant-loop-eid : goal.invariant-loop-eid
invariant-loop-eid l = AreTablesBelow l.plan l.eid l.tables.items
