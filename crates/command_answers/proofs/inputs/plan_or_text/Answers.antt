use Rattle.net_plan.{specs.PlanReading.{plan}, specs.PlanText.{IsPlanOf}}
use Rattle.net_pointers.specs.Asks.{plan_text}
use Rattle.command_answers.proofs.UnreadInputs.{unread_by}
use Rattle.command_answers.proofs.inputs.plan_or_text.Goals as goal

pub returns-in-Ok-clause-unread : goal.returns-in-Ok-clause-unread
returns-in-Ok-clause-unread g c =
    let read = c.in-Ok.ensures in
    unread_by plan_text plan IsPlanOf _ c.in-Ok.text.items c.plan_in.result read.all read.end read.within c.plan_in.ensures.unread
