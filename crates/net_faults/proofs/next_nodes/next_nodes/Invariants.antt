use Rattle.net_faults.specs.FirstRows.{AreGoings}
use Rattle.net_faults.proofs.next_nodes.next_nodes.Given as goal

abbrev pub invariant-loop-node : goal.invariant-loop-node
invariant-loop-node l = AreGoings l.plan l.eid.value l.node l.nexts.items
