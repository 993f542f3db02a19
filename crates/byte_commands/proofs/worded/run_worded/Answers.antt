use Rattle.command_answers.proofs.Told.{concludes}
use Rattle.byte_commands.proofs.worded.run_worded.Goals as goal

pub returns : goal.returns
returns g c =
    let answered = c.answer_worded-answered in
    let told = c.tell.ensures in
    record {
      concludes = concludes _ _ _ _ _ _ _ answered.result answered.ensures.answers answered.ensures.refused told.told told.refuses told.untouched told.silent told.no_memory;
    }
