use Rattle.command_answers.specs.Answers.{stream}
use Rattle.explain_commands.proofs.ExplainedEvents.{with_certificate, without_certificate}
use Rattle.explain_commands.proofs.explain.events.answer_of_plan.Goals as goal

pub returns-in-Ok-clause-answers : goal.returns-in-Ok-clause-answers
returns-in-Ok-clause-answers g c =
    let given = c.args.given.now in
    let certificates = stream g.C.Source.account c.args.certificate.now c.certificate_or_text.new.certificate in
    let happenings = stream g.V.Source.account c.args.events.now c.answer_of_both.new.events in
    with_certificate c.args.name.now c.args.certified_by.now given.text.items given.plan certificates happenings c.in-Ok.certificate c.answer_of_both.result c.in-Ok.ensures.given c.answer_of_both.ensures.answers

pub returns-in-Err-clause-answers : goal.returns-in-Err-clause-answers
returns-in-Err-clause-answers g c =
    let given = c.args.given.now in
    let certificates = stream g.C.Source.account c.args.certificate.now c.certificate_or_text.new.certificate in
    let happenings = stream g.V.Source.account c.args.events.now c.args.events.now in
    without_certificate c.args.name.now c.args.certified_by.now given.text.items given.plan certificates happenings c.in-Err.unread c.unread_answer.result c.in-Err.ensures.unread c.unread_answer.ensures.answers
