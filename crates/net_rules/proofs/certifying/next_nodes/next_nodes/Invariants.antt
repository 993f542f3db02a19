use Rattle.net_rules.specs.RoutingLoops.{AreNexts}
use Rattle.net_rules.proofs.certifying.next_nodes.next_nodes.Given as goal

abbrev pub invariant-loop-node : goal.invariant-loop-node
invariant-loop-node l = AreNexts l.plan l.eid.value l.node l.nexts.items
