use Rattle.explain_commands.{specs.MoveRows.{file_of}, proofs.ExplainedMoves.{of_after, without_after}}
use Rattle.explain_commands.proofs.explain.moved.answer_of_new.Goals as goal

pub returns-in-Ok-clause-answers : goal.returns-in-Ok-clause-answers
returns-in-Ok-clause-answers g c =
    let given = c.in-Ok.given in
    of_after (file_of c.args.name.now c.args.before.now) c.args.new_name.now given.text.items _ given.plan c.answer_of_plans.result c.in-Ok.ensures.given c.answer_of_plans.ensures.answers

pub returns-in-Err-clause-answers : goal.returns-in-Err-clause-answers
returns-in-Err-clause-answers g c =
    without_after (file_of c.args.name.now c.args.before.now) c.args.new_name.now _ c.in-Err.unread c.unread_answer.result c.in-Err.ensures.unread c.unread_answer.ensures.answers
