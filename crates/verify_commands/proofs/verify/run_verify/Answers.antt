use Rattle.std.{proofs.Common.{◌≡◌, subst}, specs.Prelude.{IfOk}}
use Rattle.command_answers.specs.Answers.{stream}
use Rattle.verify_commands.{specs.Folders.{CantBeRead}, specs.Verifying.{IsReport, Judges}, proofs.Ending.{told_ends}}
use Rattle.verify_commands.proofs.verify.run_verify.Goals as goal

pub returns-in-Ok-clause-tells : goal.returns-in-Ok-clause-tells
returns-in-Ok-clause-tells g c =
    let Reads = g.F.FolderFiles.reads c.args.folder.now in
    let Lists = g.F.FolderFiles.lists c.args.folder.now in
    let tell = c.tell_made in
    let report = subst (λ told. IfOk c.answer_of.result (IsReport told)) c.deref.ensures.value c.answer_of.ensures in
    told_ends (Judges Reads Lists (g.F.RecordFiles.holds c.args.folder.now) c.args.asked.now.is_strict) (CantBeRead Reads Lists) (tell.new.output ≡ c.args.output.now) tell.result
    (stream g.O.Sink.account c.args.output.now tell.new.output) (stream g.E.Sink.account c.args.errors.now tell.new.errors) c.in-Ok.told.items c.answer_of.result c.in-Ok.ensures.judges report
    tell.ensures.told tell.ensures.refuses tell.ensures.untouched
