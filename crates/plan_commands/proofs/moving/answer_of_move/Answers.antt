use Rattle.std.{proofs.Common.{◌≡◌, Result, Ok, Err, IfOk, subst, sym}, specs.Cow.{cow_str_bytes}}
use Rattle.net_rules.{specs.declared.move_error.MoveError.{MoveError}, specs.MoveFaults.{NamesFirstMoveFault}}
use Rattle.plan_values.{specs.declared.certificate.Certificate.{Certificate}, specs.declared.plan.Plan.{Plan}}
use Rattle.command_answers.{specs.declared.answer.Answer.{Answer}, specs.declared.status.Status.{Status}, specs.Moves.{IsMoveErrorText}}
use Rattle.plan_commands.specs.Moving.{AnswersMoveOn}
use Rattle.command_answers.specs.declared.status.Status.TheVariants as status
use Rattle.plan_commands.proofs.moving.answer_of_move.Goals as goal

fault_so : {E : Type 0} (before after : Plan) (cert : Certificate) (error : MoveError) (result : Result Answer E) → NamesFirstMoveFault before after cert error
    → IfOk result (λ (a : Answer). (a.status ≡ status.Fault) × IsMoveErrorText before error (cow_str_bytes a.text))
    → IfOk result (λ (a : Answer). AnswersMoveOn before after cert a.status (cow_str_bytes a.text))
fault_so before after cert error (Ok a) first (is, told) =
    let S : Status → Type 0 = λ s. AnswersMoveOn before after cert s (cow_str_bytes a.text) in subst S (sym is) (error, first, told)
fault_so before after cert error (Err why) first told = tt

pub returns-in-Ok : goal.returns-in-Ok
returns-in-Ok c =
    let S : Status → Type 0 = λ s. AnswersMoveOn c.args.before.now c.args.after.now c.args.certificate.now s (cow_str_bytes c.yes.result.text) in
    subst S (sym c.yes.ensures.status) (c.in-Ok.ensures.accepted, c.yes.ensures.text)

pub returns-in-Err : goal.returns-in-Err
returns-in-Err c = fault_so c.args.before.now c.args.after.now c.args.certificate.now c.in-Err.error c.move_fault_answer.result c.in-Err.ensures.first_fault c.move_fault_answer.ensures
