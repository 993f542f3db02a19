use Rattle.command_answers.proofs.Told.{concludes_on_output, quiet_told}
use Rattle.explain_commands.proofs.explain.certified.run_explain_certified.Goals as goal

pub returns-clause-concludes : goal.returns-clause-concludes
returns-clause-concludes g c =
    let answered = c.answer_explain_certified-answered in
    let told = c.tell.ensures in
    concludes_on_output _ _ _ _ _ _ answered.result answered.ensures.answers answered.ensures.refused told.told told.refuses told.silent told.no_memory

pub returns-clause-quiet : goal.returns-clause-quiet
returns-clause-quiet g c =
    let answered = c.answer_explain_certified-answered in
    quiet_told _ _ c.tell.result _ answered.result answered.ensures.refused c.tell.ensures.quiet c.tell.ensures.refuses
