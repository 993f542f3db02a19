use Rattle.std.proofs.Common.{◌≡◌, length, subst, rules}
use Rattle.net_faults.{specs.FirstRows.{AreGoings}, proofs.NextLaws.{table_pushed}}
use Rattle.net_faults.proofs.next_nodes.next_tables.Goals as goal

pub loop-eid-preserved : goal.loop-eid-preserved
loop-eid-preserved c =
    let plan = c.args.plan.now in
    let table = c.in_ok-next_nodes.field-0 in
    let same : c.new.result.value ≡ c.loop-eid.eid = search rules in
    let goings = subst (λ e. AreGoings plan e (length plan.nodes.items) table.items) same c.in_ok-next_nodes.ensures in
    rw c.in_ok-push.ensures.items (table_pushed plan c.loop-eid.eid c.loop-eid.tables.items table c.loop-eid.invariant goings)
