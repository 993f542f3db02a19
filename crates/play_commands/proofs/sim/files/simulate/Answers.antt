use Rattle.play_commands.proofs.Playing.{concludes}
use Rattle.play_commands.proofs.sim.files.simulate.Goals as goal

pub returns-clause-concludes : goal.returns-clause-concludes
returns-clause-concludes g c =
    let answered = c.answer_files-answered in
    let ended = c.end.ensures in
    concludes _ _ _ _ _ _ _ _ answered.result c.end.result answered.ensures.plays ended.ended ended.refuses ended.unwritten ended.silent
