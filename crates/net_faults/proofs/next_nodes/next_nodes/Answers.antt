use Rattle.net_faults.proofs.NextLaws.{going_pushed, no_goings}
use Rattle.net_faults.proofs.next_nodes.next_nodes.Goals as goal

pub loop-node-init : goal.loop-node-init
loop-node-init c = rw c.new-nexts.ensures.items (no_goings c.args.plan.now c.args.eid.value)

pub loop-node-preserved : goal.loop-node-preserved
loop-node-preserved c = rw c.in_ok-push.ensures.items (going_pushed c.args.plan.now c.args.eid.value c.loop-node.node c.loop-node.nexts.items c.next_node.result c.loop-node.invariant c.next_node.ensures)
