use Rattle.std.proofs.Common.{arith}
use Rattle.net_faults.proofs.OwnerLoopLaws.{no_owner_loops, all_owner_loops}
use Rattle.net_faults.proofs.owner_loops.owner_loops.Goals as goal

pub loop-node-init : goal.loop-node-init
loop-node-init c = rw c.new-loops.ensures.items (no_owner_loops c.args.plan.now)

pub returns : goal.returns
returns c = all_owner_loops c.args.plan.now c.loop-node.node c.loop-node.loops.items (omega (arith, c.loop-node-test.false)) c.loop-node.invariant
