use Rattle.std.{proofs.Common.{subst, sym}, specs.Cow.{cow_str_bytes}}
use Rattle.command_answers.{specs.Answers.{stream}, specs.declared.status.Status.{Status}}
use Rattle.explain_commands.{specs.Explaining.{IsSummedUp}, specs.ExplainingEvents.{AreEventsExplained}, proofs.ExplainedEvents.{no_events}}
use Rattle.explain_commands.proofs.explain.events.answer_of_events.Goals as goal

pub returns-in_ok-sound_text-in-Ok-clause-answers : goal.returns-in_ok-sound_text-in-Ok-clause-answers
returns-in_ok-sound_text-in-Ok-clause-answers g c =
    let plan = c.args.plan.now in
    let cert = c.args.certificate.now in
    let happenings = stream g.V.Source.account c.args.events.now c.events_or_text.new.events in
    let S : Status → Type 0 = λ s. AreEventsExplained plan cert happenings s (cow_str_bytes c.found.result.text) in
    let summed = subst (IsSummedUp plan) (sym c.found.ensures.text) c.in_ok-sound_text-in-Ok.ensures in
    subst S (sym c.found.ensures.status) ((c.in-Ok._events.items, c.in-Ok.ensures.given), (c.requires.accepted, summed))

pub returns-in-Err-clause-answers : goal.returns-in-Err-clause-answers
returns-in-Err-clause-answers g c =
    let happenings = stream g.V.Source.account c.args.events.now c.events_or_text.new.events in
    no_events c.args.plan.now c.args.certificate.now happenings c.in-Err.unread c.unread_answer.result c.requires.accepted c.in-Err.ensures.unread c.unread_answer.ensures.answers
