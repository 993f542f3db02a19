use Rattle.net_faults.specs.PlanFaults.{AreLoopsBefore}
use Rattle.net_faults.proofs.routing_loops.add_for.Given as goal

abbrev pub invariant-loop-node : goal.invariant-loop-node
invariant-loop-node l = AreLoopsBefore l.plan l.eid.value l.node l.loops.items
