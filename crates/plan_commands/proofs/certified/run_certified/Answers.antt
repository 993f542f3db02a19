use Rattle.std.{proofs.Common.{refl, inl, inr}, proofs.lemmas.Result.{IfOk-weaker, IfErr-weaker}}
use Rattle.command_answers.{proofs.Told.{concludes, concludes_unread}, proofs.GivenTexts.{are_given}}
use Rattle.plan_commands.proofs.certified.run_certified.Goals as goal

pub returns-in-Ok-clause-concludes : goal.returns-in-Ok-clause-concludes
returns-in-Ok-clause-concludes g c =
    let read = c.in-Ok in
    let answered = c.answer_of_both-answered in
    let told = c.tell.ensures in
    concludes _ _ _ _ _ _ _ answered.result (IfOk-weaker answered.result _ _ (λ answer h. (read.given.text.items, read.given.plan, read.certificate, read.ensures.given, h)) answered.ensures.answers)
    (IfErr-weaker answered.result _ _ (λ why h. inr (read.given.plan, read.certificate, are_given _ _ read.given.text.items read.given.plan read.certificate read.ensures.given, h)) answered.ensures.unanswered) told.told told.refuses told.untouched told.silent told.no_memory

pub returns-in-Err-clause-concludes : goal.returns-in-Err-clause-concludes
returns-in-Err-clause-concludes g c = concludes_unread _ _ _ _ _ _ _ c.in-Err.refused (inl c.in-Err.ensures.unread) c.refuse.ensures.refuses refl
