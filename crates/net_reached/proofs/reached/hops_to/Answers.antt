use Rattle.std.proofs.Common.{subst}
use Rattle.net_questions.specs.Ways.{IsWay}
use Rattle.net_reached.proofs.Arriving.{stops}
use Rattle.net_reached.proofs.reached.hops_to.Goals as goal

pub returns : goal.returns
returns c =
    let made = c.in_ok-way in
    stops c.args.checked.now.0 c.args.checked.now.1 c.args.eid.value c.args.from made.way.last made.way.steps.items c.in-Stops.field-0
    c.plan-plan.ensures.accepted
    (subst (λ end. IsWay c.args.checked.now.0 c.args.eid.value c.args.from made.way.steps.items made.way.last end) c.in-Stops.is made.ensures.way)
