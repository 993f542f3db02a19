use Rattle.command_answers.proofs.Told.{concludes}
use Rattle.plan_commands.proofs.make.run_make_certified.Goals as goal

pub returns-clause-concludes : goal.returns-clause-concludes
returns-clause-concludes g c =
    let answered = c.answer_certified-answered in
    let told = c.tell.ensures in
    concludes _ _ _ _ _ _ _ answered.result answered.ensures.answers answered.ensures.refused told.told told.refuses told.untouched told.silent told.no_memory
