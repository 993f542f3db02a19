use Rattle.std.{proofs.Common.{string_bytes, subst, sym}, specs.Cow.{cow_str_bytes}}
use Rattle.command_answers.specs.declared.status.Status.{Status}
use Rattle.explain_commands.{specs.ExplainingMoves.{IsMoveExplained, IsSoundMoveText}, specs.MoveRows.{file_of}}
use Rattle.explain_commands.proofs.explain.moved.answer_of_plans.Goals as goal

pub returns-in_ok-sound_text-in-Ok-clause-answers : goal.returns-in_ok-sound_text-in-Ok-clause-answers
returns-in_ok-sound_text-in-Ok-clause-answers c =
    let before = file_of c.args.name.now c.args.before.now in
    let after = file_of c.args.new_name.now c.args.after.now in
    let text = c.in_ok-sound_text-in-Ok in
    let sound : IsSoundMoveText before.plan after.plan (string_bytes text.field-0) =
    record { certificate = c.in-Ok.certificate; accepted = c.in-Ok.ensures.accepted; exact = c.in-Ok.ensures.exact; written = text.ensures } in
    let S : Status → Type 0 = λ s. IsMoveExplained before after s (cow_str_bytes c.found.result.text) in
    subst S (sym c.found.ensures.status) (subst (IsSoundMoveText before.plan after.plan) (sym c.found.ensures.text) sound)
