use Rattle.net_questions.proofs.Tables.{hops_more}
use Rattle.net_questions.proofs.hops.hops_to.Goals as goal

pub hops_from-requires-clause-nexts : goal.hops_from-requires-clause-nexts
hops_from-requires-clause-nexts c = rw c.deref.ensures.value c.in_ok-nexts.ensures

pub loop-from-preserved : goal.loop-from-preserved
loop-from-preserved c =
    rw c.in_ok-push.ensures.items (hops_more c.args.plan.now c.args.eid.value c.loop-from.from c.loop-from.hops.items c.hops_from.result c.loop-from.invariant c.hops_from.ensures)
