use Rattle.net_faults.specs.PlanFaults.{AreOwnerLoopsBefore}
use Rattle.net_faults.proofs.owner_loops.owner_loops.Given as goal

abbrev pub invariant-loop-node : goal.invariant-loop-node
invariant-loop-node l = AreOwnerLoopsBefore l.plan l.node l.loops.items
