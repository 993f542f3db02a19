use Rattle.explain_commands.proofs.Explained.{of_given, of_nothing}
use Rattle.explain_commands.proofs.explain.answer_explain.Goals as goal

pub returns-in-Ok-clause-answers : goal.returns-in-Ok-clause-answers
returns-in-Ok-clause-answers g c =
    let given = c.in-Ok.given in
    of_given c.args.name.now _ given.text.items given.plan c.explained_plan.result c.in-Ok.ensures.given c.explained_plan.ensures.answers

pub returns-in-Err-clause-answers : goal.returns-in-Err-clause-answers
returns-in-Err-clause-answers g c = of_nothing c.args.name.now _ c.in-Err.unread c.unread_answer.result c.in-Err.ensures.unread c.unread_answer.ensures.answers
