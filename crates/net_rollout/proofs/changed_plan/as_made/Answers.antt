use Rattle.net_rollout.proofs.Made.{parts_so}
use Rattle.net_rollout.proofs.changed_plan.as_made.Goals as goal

pub returns : goal.returns
returns c new goes = parts_so c.args.here.now new c.args.after.now c.args.change c.in-Parts.parts c.in-Parts.is goes
