use Rattle.std.proofs.Common.{subst}
use Rattle.net_rollout.{specs.Steps.{AreTold}, proofs.Made.{parts_told}}
use Rattle.net_rollout.proofs.changed_plan.is_told.Goals as goal

pub returns-in-Parts : goal.returns-in-Parts
returns-in-Parts c so =
    parts_told c.args.new.now c.args.change.now c.in-Parts.parts c.in-Parts.is (subst (AreTold c.args.new.now) c.deref.ensures.value (c.are_told.ensures so))
