use Rattle.command_answers.specs.Answers.{stream}
use Rattle.explain_commands.proofs.ExplainedEvents.{accepted_all, refused_all}
use Rattle.explain_commands.proofs.explain.events.answer_of_both.Goals as goal

pub returns-in-Ok-clause-answers : goal.returns-in-Ok-clause-answers
returns-in-Ok-clause-answers g c =
    let given = c.args.given.now in
    let happenings = stream g.V.Source.account c.args.events.now c.answer_of_events.new.events in
    accepted_all c.args.name.now c.args.certified_by.now given.text.items given.plan c.args.certificate.now happenings c.answer_of_events.result c.answer_of_events.ensures.answers

pub returns-in-Err-clause-answers : goal.returns-in-Err-clause-answers
returns-in-Err-clause-answers g c =
    let given = c.args.given.now in
    let happenings = stream g.V.Source.account c.args.events.now c.args.events.now in
    refused_all c.args.name.now c.args.certified_by.now given.text.items given.plan c.args.certificate.now happenings c.explained.result c.explained.ensures.answers
