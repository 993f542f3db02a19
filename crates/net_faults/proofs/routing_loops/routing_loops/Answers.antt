use Rattle.std.proofs.Common.{arith}
use Rattle.net_faults.proofs.RoutingLoopLaws.{no_loops, all_loops}
use Rattle.net_faults.proofs.routing_loops.routing_loops.Goals as goal

pub loop-eid-init : goal.loop-eid-init
loop-eid-init c = rw c.new-loops.ensures.items (no_loops c.args.plan.now)

pub returns : goal.returns
returns c = all_loops c.args.plan.now c.loop-eid.eid c.loop-eid.loops.items (omega (arith, c.loop-eid-test.false)) c.loop-eid.invariant
