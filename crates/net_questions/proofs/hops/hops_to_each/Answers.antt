use Rattle.net_questions.proofs.Tables.{each_more}
use Rattle.net_questions.proofs.hops.hops_to_each.Goals as goal

pub loop-to-preserved : goal.loop-to-preserved
loop-to-preserved c =
    rw c.in_ok-push.ensures.items (each_more c.args.plan.now c.loop-to.to c.loop-to.table.items (record { from_each = c.in_ok-from_each.from_each }) c.eid_at-eid.result.value
    c.loop-to.invariant c.eid_at-eid.ensures c.in_ok-from_each.ensures)
