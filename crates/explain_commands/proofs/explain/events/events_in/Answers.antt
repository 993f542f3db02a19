use Rattle.std.proofs.Common.{rules, List, ℕ, refl, subst}
use Rattle.net_plan.{specs.EventReading.{events}, specs.EventText.{AreEventsOf}}
use Rattle.plan_values.specs.PlanValues.{node_names, plan_value}
use Rattle.net_pointers.specs.Asks.{events_text}
use Rattle.reading_texts.{specs.TextErrors.{IsToldAs}, specs.declared.text_error.TextError.TheVariants.{Faulty}}
use Rattle.explain_commands.proofs.explain.events.events_in.Goals as goal

pub returns-in-Err-Faulty-clause-unread : goal.returns-in-Err-Faulty-clause-unread
returns-in-Err-Faulty-clause-unread c =
    let plan = plan_value c.args.plan.now in
    let nodes = node_names plan.nodes in
    let Told : List ℕ → Type 0 = λ t. IsToldAs (events_text nodes) (events nodes) (AreEventsOf plan) t (Faulty c.in-Err-Faulty.fault) in
    let told : Told c.deref.result.now = search rules in
    (refl, subst Told c.deref.ensures.value told)
