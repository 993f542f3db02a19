use Rattle.std.proofs.Common.{subst, sym}
use Rattle.net_rules.specs.Rules.{Accepts}
use Rattle.plan_values.specs.declared.plan.Plan.{Plan}
use Rattle.plan_commands.proofs.draw.certified_drawing.Goals as goal

pub drawing-requires : goal.drawing-requires
drawing-requires c =
    let cert = c.args.checked.now.1 in
    record { first = (cert, subst (λ (plan : Plan). Accepts plan cert) (sym c.plan-plan.ensures.plan) c.plan-plan.ensures.accepted) }

pub bundle_drawing-requires : goal.bundle_drawing-requires
bundle_drawing-requires c =
    let cert = c.args.checked.now.1 in
    record { first = (cert, subst (λ (plan : Plan). Accepts plan cert) (sym c.plan-plan.ensures.plan) c.plan-plan.ensures.accepted) }
