use Rattle.std.{proofs.Common.{inl, refl}, proofs.lemmas.Result.{IfOk-weaker, IfErr-weaker}}
use Rattle.command_answers.proofs.Told.{concludes, concludes_unread, memory_lacks}
use Rattle.audit_commands.proofs.audit.run_audit.Goals as goal

pub returns-in-Ok-clause-concludes : goal.returns-in-Ok-clause-concludes
returns-in-Ok-clause-concludes g c =
    let read = c.in-Ok in
    let answered = c.answer_at_bus-answered in
    let told = c.tell.ensures in
    concludes _ _ _ _ _ _ _ answered.result (IfOk-weaker answered.result _ _ (λ answer h. (read.plan, read.certificate, read.ensures.given, h)) answered.ensures.answers)
    (IfErr-weaker answered.result _ _ (λ why is. inl (memory_lacks _ _ _ _ why is)) answered.ensures.refused) told.told told.refuses told.untouched told.silent told.no_memory

pub returns-in-Ok-clause-in_order : goal.returns-in-Ok-clause-in_order
returns-in-Ok-clause-in_order g c = λ without. absurd (without c.in-Ok.plan c.in-Ok.ensures.given.plan_text)

pub returns-in-Err-clause-concludes : goal.returns-in-Err-clause-concludes
returns-in-Err-clause-concludes g c = concludes_unread _ _ _ _ _ _ _ c.in-Err.refused c.in-Err.ensures.unread c.refuse.ensures.refuses refl

pub returns-in-Ok-clause-certified_in_order : goal.returns-in-Ok-clause-certified_in_order
returns-in-Ok-clause-certified_in_order g c = λ without. absurd (without c.in-Ok.plan c.in-Ok.certificate c.in-Ok.ensures.given)
