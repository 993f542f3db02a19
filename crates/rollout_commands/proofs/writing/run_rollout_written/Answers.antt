use Rattle.std.proofs.Common.{◌≡◌}
use Rattle.command_answers.{specs.Answers.{stream}, proofs.Told.{concludes}}
use Rattle.rollout_commands.proofs.Written.{kept_so}
use Rattle.rollout_commands.proofs.writing.run_rollout_written.Goals as goal

pub returns-clause-concludes : goal.returns-clause-concludes
returns-clause-concludes g c =
    let answered = c.answer_written-answered in
    let told = c.tell.ensures in
    concludes _ _ _ _ _ _ _ answered.result answered.ensures.answers answered.ensures.refused told.told told.refuses told.untouched told.silent told.no_memory

pub returns-clause-kept : goal.returns-clause-kept
returns-clause-kept g c =
    let answered = c.answer_written-answered in
    let output = stream g.O.Sink.account c.args.output.now c.tell.new.output in
    let errors = stream g.E.Sink.account c.args.errors.now c.tell.new.errors in
    kept_so (answered.new.files ≡ c.args.files.now) c.tell.result output errors answered.result answered.ensures.kept answered.ensures.no_memory
    c.tell.ensures.told c.tell.ensures.refuses
