use Rattle.net_faults.proofs.OwnerLoopLaws.{owner_circle, owner_not_least, owner_loop_pushed, owner_loop_skipped}
use Rattle.net_faults.proofs.owner_loops.add_loop.Goals as goal

pub returns-in_default : goal.returns-in_default
returns-in_default c =
    owner_loop_skipped c.args.plan.now c.args.node c.args.loops.now.items c.requires.before
    (owner_not_least c.args.plan.now c.args.owners.now c.requires.owners c.args.node (rw c.in_default.is at c.in_ok-nodes.ensures))

pub returns : goal.returns
returns c =
    rw c.in_ok-push.ensures.items (owner_loop_pushed c.args.plan.now c.args.node c.args.loops.now.items c.in-Some.nodes c.requires.before
    (owner_circle c.args.plan.now c.args.owners.now c.requires.owners c.args.node c.in-Some.nodes.items (rw c.in-Some.is at c.in_ok-nodes.ensures)))
