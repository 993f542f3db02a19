use Rattle.command_answers.proofs.Told.{concludes}
use Rattle.byte_commands.proofs.show.run_show.Goals as goal

pub returns : goal.returns
returns g c =
    let answered = c.answer_show-answered in
    let told = c.tell.ensures in
    record {
      concludes = concludes _ _ _ _ _ _ _ answered.result answered.ensures.answers answered.ensures.no_hex told.told told.refuses told.untouched told.silent told.no_memory;
    }
