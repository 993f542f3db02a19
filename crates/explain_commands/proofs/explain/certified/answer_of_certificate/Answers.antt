use Rattle.explain_commands.proofs.Explained.{of_certificate, of_unread}
use Rattle.explain_commands.proofs.explain.certified.answer_of_certificate.Goals as goal

pub returns-in-Ok-clause-answers : goal.returns-in-Ok-clause-answers
returns-in-Ok-clause-answers g c =
    let given = c.args.given.now in
    of_certificate c.args.name.now c.args.certified_by.now given.text.items given.plan _ c.in-Ok.certificate c.answer_of_both.result c.in-Ok.ensures.given c.answer_of_both.ensures.answers

pub returns-in-Err-clause-answers : goal.returns-in-Err-clause-answers
returns-in-Err-clause-answers g c =
    let given = c.args.given.now in
    of_unread c.args.name.now c.args.certified_by.now given.text.items given.plan _ c.in-Err.unread c.unread_answer.result c.in-Err.ensures.unread c.unread_answer.ensures.answers
