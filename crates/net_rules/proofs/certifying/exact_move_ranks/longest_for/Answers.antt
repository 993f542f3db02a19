use Rattle.std.proofs.Common.{length}
use Rattle.net_rules.{specs.RoutingLoops.{AreNexts}, proofs.MoveRankLaws.{longest_same}}
use Rattle.net_rules.proofs.certifying.exact_move_ranks.longest_for.Goals as goal

pub returns : goal.returns
returns c =
    let before = c.args.before.now in
    let after = c.args.after.now in
    let e = c.args.eid.value in
    let old : AreNexts before e (length before.nodes.items) c.deref.result.now = rw c.deref.ensures.value c.in_ok-by_old.ensures in
    let new : AreNexts after e (length after.nodes.items) c.deref-2.result.now = rw c.deref-2.ensures.value c.in_ok-by_new.ensures in
    longest_same before after e c.deref.result.now c.deref-2.result.now c.requires.apart c.requires.apart_after c.requires.many old new c.longest_or_loop.result c.longest_or_loop.ensures
