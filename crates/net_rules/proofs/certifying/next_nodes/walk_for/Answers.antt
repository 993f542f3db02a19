use Rattle.std.proofs.Common.{length}
use Rattle.net_rules.{specs.RoutingLoops.{AreNexts}, proofs.EidMoves.{walked_same}}
use Rattle.net_rules.proofs.certifying.next_nodes.walk_for.Goals as goal

pub returns : goal.returns
returns c =
    let plan = c.args.plan.now in
    let e = c.args.eid.value in
    let nexts : AreNexts plan e (length plan.nodes.items) c.deref.result.now = rw c.deref.ensures.value c.in_ok-nexts.ensures in
    walked_same plan e c.deref.result.now c.requires.apart nexts c.walk.result c.walk.ensures
