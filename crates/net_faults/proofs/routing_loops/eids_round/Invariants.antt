use Rattle.net_faults.{specs.FirstRows.{IsJoinedBy}, proofs.RoutingLoopLaws.{AreEidsBelow}}
use Rattle.net_faults.proofs.routing_loops.eids_round.Given as goal

abbrev pub invariant-loop-eid : goal.invariant-loop-eid
invariant-loop-eid l = AreEidsBelow (λ e. IsJoinedBy l.tables e l.nodes) l.eid l.eids.items
