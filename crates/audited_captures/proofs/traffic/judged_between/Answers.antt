use Rattle.std.{proofs.Common.{sym, ap, ◌∙◌, subst}, specs.Prelude.{Option}}
use Rattle.plan_values.specs.declared.plan.Plan.{Plan}
use Rattle.audited_captures.{specs.Judging.{why_by}, specs.Traffic.{Unplanned, IsJudged}, proofs.TrafficLaws.{way_decides}}
use Rattle.audited_captures.proofs.traffic.judged_between.Goals as goal

pub returns : goal.returns
returns c =
    let plan = c.args.checked.now.0 in
    let bus = c.args.bus in
    let way = c.in_ok-way.way in
    let why = c.why_of.ensures ∙ ap (λ (p : Plan). why_by p bus way.steps.items way.end) c.plan.ensures.plan in
    subst (λ (w : Option Unplanned). IsJudged plan bus c.args.source.value c.args.destination.value w) (sym why)
    (way_decides plan c.args.checked.now.1 c.plan.ensures.accepted bus c.args.source.value c.args.destination.value c.args.from c.args.to c.requires.sent c.requires.taken
    c.requires.sender c.requires.receiver way.steps.items way.last way.end c.in_ok-way.ensures.way)
