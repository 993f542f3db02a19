use Rattle.command_answers.{specs.Answers.{stream}, proofs.GivenTexts.{gave_plan}}
use Rattle.explain_commands.proofs.Explained.{of_both, of_neither}
use Rattle.explain_commands.proofs.explain.certified.answer_explain_certified.Goals as goal

pub returns-in-Ok-clause-answers : goal.returns-in-Ok-clause-answers
returns-in-Ok-clause-answers g c =
    let given = c.in-Ok.given in
    let plans = stream g.P.Source.account c.args.plan.now c.plan_or_text.new.plan in
    let certificates = stream g.C.Source.account c.args.certificate.now c.answer_of_certificate.new.certificate in
    of_both c.args.name.now c.args.certified_by.now given.text.items plans certificates given.plan c.answer_of_certificate.result c.in-Ok.ensures.given c.answer_of_certificate.ensures.answers

pub returns-in-Err-clause-answers : goal.returns-in-Err-clause-answers
returns-in-Err-clause-answers g c =
    let plans = stream g.P.Source.account c.args.plan.now c.plan_or_text.new.plan in
    let certificates = stream g.C.Source.account c.args.certificate.now c.args.certificate.now in
    of_neither c.args.name.now c.args.certified_by.now plans certificates c.in-Err.unread c.unread_answer.result c.in-Err.ensures.unread c.unread_answer.ensures.answers

pub returns-in-Ok-clause-in_order : goal.returns-in-Ok-clause-in_order
returns-in-Ok-clause-in_order g c = λ without.
    let given = c.in-Ok.given in
    let plans = stream g.P.Source.account c.args.plan.now c.plan_or_text.new.plan in
    absurd (without given.plan (gave_plan plans given.text.items given.plan c.in-Ok.ensures.given))
