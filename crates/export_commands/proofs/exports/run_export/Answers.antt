use Rattle.std.{proofs.Common.{refl, inl, inr}, proofs.lemmas.Result.{IfOk-weaker, IfErr-weaker}}
use Rattle.command_answers.proofs.Told.{concludes_bytes, concludes_unread}
use Rattle.export_commands.proofs.exports.run_export.Goals as goal

pub returns-in-Ok-clause-concludes : goal.returns-in-Ok-clause-concludes
returns-in-Ok-clause-concludes g c =
    let read = c.in-Ok in
    let answered = c.answer_of_both-answered in
    let told = c.tell_bytes.ensures in
    concludes_bytes _ _ _ _ _ _ _ answered.result (IfOk-weaker answered.result _ _ (λ answer h. (read.given, read.certificate, read.ensures.given, h)) answered.ensures.answers)
    (IfErr-weaker answered.result _ _ (λ why h. inr (read.given, read.certificate, read.ensures.given, h)) answered.ensures.unanswered) told.told told.refuses told.untouched told.silent told.no_memory

pub returns-in-Err-clause-concludes : goal.returns-in-Err-clause-concludes
returns-in-Err-clause-concludes g c = concludes_unread _ _ _ _ _ _ _ c.in-Err.refused (inl c.in-Err.ensures.unread) c.refuse.ensures.refuses refl
