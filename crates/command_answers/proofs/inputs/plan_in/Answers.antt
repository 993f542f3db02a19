use Rattle.std.proofs.Common.{rules, List, ℕ, refl, subst}
use Rattle.net_plan.{specs.PlanReading.{plan}, specs.PlanText.{IsPlanOf}}
use Rattle.net_pointers.specs.Asks.{plan_text}
use Rattle.reading_texts.{specs.TextErrors.{IsToldAs}, specs.declared.text_error.TextError.TheVariants.{Faulty}}
use Rattle.command_answers.proofs.inputs.plan_in.Goals as goal

pub returns-in-Err-Faulty-clause-unread : goal.returns-in-Err-Faulty-clause-unread
returns-in-Err-Faulty-clause-unread c =
    let told : IsToldAs plan_text plan IsPlanOf c.deref.result.now (Faulty c.in-Err-Faulty.fault) = search rules in
    (refl, subst (λ (t : List ℕ). IsToldAs plan_text plan IsPlanOf t (Faulty c.in-Err-Faulty.fault)) c.deref.ensures.value told)
