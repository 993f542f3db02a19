use Rattle.std.proofs.Common.{subst}
use Rattle.net_plan.{specs.Gathered.{IsPlainText}, specs.PlanText.{IsPlanOf}, proofs.Gathered.{if_some, stands_for_plain}}
use Rattle.plan_values.specs.PlanValues.{plan_value}
use Rattle.net_plan.proofs.reading.plan_at_once.Goals as goal

pub returns-clause-told : goal.returns-clause-told
returns-clause-told c =
    let is = c.in_ok-short_text.ensures.text in
    if_some c.plain_plan.result (λ p h. stands_for_plain IsPlanOf c.args.text.now (plan_value p) is.1 (subst (λ text. IsPlainText IsPlanOf text (plan_value p)) is.0 h)) c.plain_plan.ensures

pub returns-clause-within : goal.returns-clause-within
returns-clause-within c = if_some c.plain_plan.result (λ p h. c.in_ok-short_text.ensures.within) c.plain_plan.ensures
