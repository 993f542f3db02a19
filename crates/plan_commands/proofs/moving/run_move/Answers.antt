use Rattle.std.{proofs.Common.{inl, refl}, proofs.lemmas.Result.{IfOk-weaker}}
use Rattle.command_answers.proofs.Told.{concludes_made, concludes_unread}
use Rattle.plan_commands.proofs.moving.run_move.Goals as goal

pub returns-in-Ok-clause-concludes : goal.returns-in-Ok-clause-concludes
returns-in-Ok-clause-concludes g c =
    let read = c.in-Ok in
    let made = c.answer_of_move-answered in
    let told = c.tell_made.ensures in
    concludes_made _ _ _ _ _ _ _ made.result (IfOk-weaker made.result _ _ (λ answer h. (read.before, read.after, read.certificate, read.ensures.given, h)) made.ensures) (inl (inl tt)) told.told told.refuses told.untouched told.silent told.no_memory

pub returns-in-Err-clause-concludes : goal.returns-in-Err-clause-concludes
returns-in-Err-clause-concludes g c = concludes_unread _ _ _ _ _ _ _ c.in-Err.refused c.in-Err.ensures.unread c.refuse.ensures.refuses refl
