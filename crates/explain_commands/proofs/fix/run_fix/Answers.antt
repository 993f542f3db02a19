use Rattle.std.{proofs.Common.{string_bytes}, specs.Cow.{cow_str_bytes}}
use Rattle.command_answers.specs.Answers.{stream}
use Rattle.explain_commands.proofs.Mended.{both_end}
use Rattle.explain_commands.proofs.fix.run_fix.Goals as goal

pub returns-in-Ok-clause-fixes : goal.returns-in-Ok-clause-fixes
returns-in-Ok-clause-fixes g c =
    let mended = c.in-Ok.mended in
    let plans = stream g.P.Source.account c.args.plan.now c.answer_fix.new.plan in
    let output = stream g.O.Sink.account c.args.output.now c.tell_mended.new.output in
    let errors = stream g.E.Sink.account c.args.errors.now c.tell_mended.new.errors in
    both_end plans (cow_str_bytes mended.answer.text) (string_bytes mended.lines) mended.answer.status c.tell_mended.result mended.answer.memory output errors c.in-Ok.ensures.answers
    c.tell_mended.ensures.told
