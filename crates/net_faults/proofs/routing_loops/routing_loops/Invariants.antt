use Rattle.net_faults.specs.PlanFaults.{AreLoopsBefore}
use Rattle.net_faults.proofs.routing_loops.routing_loops.Given as goal

abbrev pub invariant-loop-eid : goal.invariant-loop-eid
invariant-loop-eid l = AreLoopsBefore l.plan l.eid 0 l.loops.items
