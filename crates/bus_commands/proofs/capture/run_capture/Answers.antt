use Rattle.std.{proofs.Common.{inl, refl}, proofs.lemmas.Result.{IfErr-weaker}}
use Rattle.command_answers.{specs.Answers.{stream}, proofs.Told.{concludes_bytes, concludes_unread, memory_lacks}}
use Rattle.bus_commands.proofs.Capturing.{answers_given}
use Rattle.bus_commands.proofs.capture.run_capture.Goals as goal

pub returns-in-Ok-clause-concludes : goal.returns-in-Ok-clause-concludes
returns-in-Ok-clause-concludes g c =
    let read = c.in-Ok in
    let answered = c.answer_run-answered in
    let told = c.tell_bytes.ensures in
    let plans = stream g.P.Source.account c.args.plan.now c.read_run.new.plan in
    let certificates = stream g.C.Source.account c.args.certificate.now c.read_run.new.certificate in
    let happenings = stream g.V.Source.account c.args.events.now c.read_run.new.events in
    let answers = answers_given read.plan read.certificate read.events.items c.deref.result.now plans certificates happenings answered.result read.ensures.given read.ensures.events c.deref.ensures.value
    answered.ensures.answers in
    concludes_bytes _ _ _ _ _ _ _ answered.result answers (IfErr-weaker answered.result _ _ (λ why is. inl (inl (memory_lacks _ _ _ _ why is))) answered.ensures.refused) told.told told.refuses told.untouched told.silent told.no_memory

pub returns-in-Ok-clause-in_order : goal.returns-in-Ok-clause-in_order
returns-in-Ok-clause-in_order g c = λ without. absurd (without c.in-Ok.plan c.in-Ok.ensures.given.plan_text)

pub returns-in-Err-clause-concludes : goal.returns-in-Err-clause-concludes
returns-in-Err-clause-concludes g c = concludes_unread _ _ _ _ _ _ _ c.in-Err.refused c.in-Err.ensures.unread c.refuse.ensures.refuses refl

pub returns-in-Ok-clause-certified_in_order : goal.returns-in-Ok-clause-certified_in_order
returns-in-Ok-clause-certified_in_order g c = λ without. absurd (without c.in-Ok.plan c.in-Ok.certificate c.in-Ok.ensures.given)
