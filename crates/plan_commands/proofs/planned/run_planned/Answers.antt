use Rattle.std.{proofs.Common.{refl}, proofs.lemmas.Result.{IfOk-weaker}}
use Rattle.command_answers.proofs.Told.{concludes_made, concludes_unread}
use Rattle.plan_commands.proofs.planned.run_planned.Goals as goal

pub returns-in-Ok : goal.returns-in-Ok
returns-in-Ok g c =
    let given = c.in-Ok.given in
    let made = c.answer_of_plan-answered in
    let told = c.tell_made.ensures in
    record {
      concludes = concludes_made _ _ _ _ _ _ _ made.result (IfOk-weaker made.result _ _ (λ answer h. (given.text.items, given.plan, c.in-Ok.ensures.given, h)) made.ensures) tt told.told told.refuses
          told.untouched told.silent told.no_memory;
    }

pub returns-in-Err : goal.returns-in-Err
returns-in-Err g c = record { concludes = concludes_unread _ _ _ _ _ _ _ c.in-Err.refused c.in-Err.ensures.unread c.refuse.ensures.refuses refl }
