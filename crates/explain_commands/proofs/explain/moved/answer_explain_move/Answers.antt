use Rattle.command_answers.{specs.Answers.{stream}, proofs.GivenTexts.{gave_plan}}
use Rattle.explain_commands.proofs.ExplainedMoves.{of_before, without_before}
use Rattle.explain_commands.proofs.explain.moved.answer_explain_move.Goals as goal

pub returns-in-Ok-clause-answers : goal.returns-in-Ok-clause-answers
returns-in-Ok-clause-answers g c =
    let given = c.in-Ok.given in
    let befores = stream g.P.Source.account c.args.before.now c.plan_or_text.new.plan in
    let afters = stream g.Q.Source.account c.args.after.now c.answer_of_new.new.after in
    of_before c.args.name.now c.args.new_name.now given.text.items befores afters given.plan c.answer_of_new.result c.in-Ok.ensures.given c.answer_of_new.ensures.answers

pub returns-in-Err-clause-answers : goal.returns-in-Err-clause-answers
returns-in-Err-clause-answers g c =
    let befores = stream g.P.Source.account c.args.before.now c.plan_or_text.new.plan in
    let afters = stream g.Q.Source.account c.args.after.now c.args.after.now in
    without_before c.args.name.now c.args.new_name.now befores afters c.in-Err.unread c.unread_answer.result c.in-Err.ensures.unread c.unread_answer.ensures.answers

pub returns-in-Ok-clause-in_order : goal.returns-in-Ok-clause-in_order
returns-in-Ok-clause-in_order g c = λ without.
    let given = c.in-Ok.given in
    let befores = stream g.P.Source.account c.args.before.now c.plan_or_text.new.plan in
    absurd (without given.plan (gave_plan befores given.text.items given.plan c.in-Ok.ensures.given))
