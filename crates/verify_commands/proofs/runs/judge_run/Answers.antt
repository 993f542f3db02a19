use Rattle.std.proofs.Common.{subst, sym, Some, Ok}
use Rattle.verify_commands.{specs.Folders.{lines_path}, specs.Parts.{HasEvents}, proofs.Fitting.{run_judged}}
use Rattle.verify_commands.proofs.runs.judge_run.Goals as goal

pub returns-clause-judged : goal.returns-clause-judged
returns-clause-judged g c =
    let Reads = g.F.FolderFiles.reads c.args.folder.now in
    let plan = c.args.plan.now in
    let name = c.args.name.now in
    let has = subst (HasEvents Reads plan name) (sym c.deref.ensures.value) c.in_ok-events.ensures.held in
    let read = subst (λ lines. Reads (lines_path name) (Ok (Some lines))) (sym c.deref-2.ensures) c.in_ok-lines.ensures.held in (
      c.in_ok-judge_lines.ensures.name,
      run_judged Reads plan c.args.fit.now name c.deref-2.result.now c.deref.result.now c.in_ok-judge_lines.field-0.verdict c.requires.fit has read c.in_ok-judge_lines.ensures.verdict,
    )
