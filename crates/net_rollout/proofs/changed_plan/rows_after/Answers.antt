use Rattle.net_rollout.proofs.Made.{parts_go_so}
use Rattle.net_rollout.proofs.changed_plan.rows_after.Goals as goal

pub returns-in-Parts : goal.returns-in-Parts
returns-in-Parts c =
    parts_go_so c.args.here.now c.args.new.now c.args.change.now c.in-Parts.parts c.deref-in-Parts.result.now c.args.node c.rows_by_parts.result c.in-Parts.is
    c.deref-in-Parts.ensures.value c.rows_by_parts.ensures
