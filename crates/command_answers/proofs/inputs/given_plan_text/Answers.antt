use Rattle.std.proofs.Common.{rules, List, ℕ, subst}
use Rattle.net_plan.{specs.PlanReading.{plan}, specs.PlanText.{IsPlanOf}, specs.Refusals.{IsRefused}}
use Rattle.command_answers.proofs.GivenTexts.{no_plan}
use Rattle.command_answers.proofs.inputs.given_plan_text.Goals as goal

pub returns-in-Err-plan_of_text-clause-unread : goal.returns-in-Err-plan_of_text-clause-unread
returns-in-Err-plan_of_text-clause-unread g c =
    let read = c.in-Ok.ensures in
    let cause = c.in-Err-plan_of_text.cause in
    let told : IsRefused plan IsPlanOf c.deref.result.now cause = search rules in
    let refused = subst (λ (t : List ℕ). IsRefused plan IsPlanOf t cause) c.deref.ensures.value told in
    rw c.at_input.ensures (no_plan _ c.in-Ok.text.items cause read.all read.end read.within refused)
