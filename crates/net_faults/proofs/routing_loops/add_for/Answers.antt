use Rattle.std.proofs.Common.{arith}
use Rattle.net_faults.proofs.RoutingLoopLaws.{next_eid}
use Rattle.net_faults.proofs.routing_loops.add_for.Goals as goal

pub returns : goal.returns
returns c = next_eid c.args.plan.now c.args.eid.value c.loop-node.node c.loop-node.loops.items c.loop-node.invariant (omega (arith, c.loop-node-test.false))
