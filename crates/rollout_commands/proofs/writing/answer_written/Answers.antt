use Rattle.std.proofs.Common.{rules, ◌≡◌, Err, inl}
use Rattle.command_answers.specs.Answers.{stream}
use Rattle.step_files.specs.Writes.{writes}
use Rattle.rollout_commands.proofs.Written.{told_so}
use Rattle.rollout_commands.proofs.writing.answer_written.Goals as goal

pub returns-in_err-before-clause-refused : goal.returns-in_err-before-clause-refused
returns-in_err-before-clause-refused g c =
    let failed = c.in_err-before in
    let ended : c.from_residual.result ≡ Err failed.field-0.0 = search rules in
    rw ended (inl failed.ensures.unread)

pub returns-clause-answers : goal.returns-clause-answers
returns-clause-answers g c =
    let read = c.in_ok-before in
    let befores = stream g.P.Source.account c.args.before.now c.read_plans.new.before in
    let afters = stream g.Q.Source.account c.args.after.now c.read_plans.new.after in
    let written = writes g.F.TextFiles.account c.args.files.now c.answer_between.new.files in
    told_so c.args.folder.now befores afters written read.before read.after c.answer_between.result read.ensures.given.0 read.ensures.given.1
    c.answer_between.ensures.answers
