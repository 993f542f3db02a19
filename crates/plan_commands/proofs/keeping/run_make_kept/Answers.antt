use Rattle.std.proofs.Common.{Ok, string_bytes}
use Rattle.command_answers.proofs.Told.{concludes}
use Rattle.plan_commands.proofs.Kept.{kept_told}
use Rattle.plan_commands.proofs.keeping.run_make_kept.Goals as goal

pub returns-in-Ok-clause-concludes : goal.returns-in-Ok-clause-concludes
returns-in-Ok-clause-concludes g c =
    let kept = c.in-Ok.kept in
    let told = c.tell_kept.ensures in
    concludes _ _ _ _ _ _ _ (Ok kept.answer) (string_bytes kept.notes, c.in-Ok.ensures.kept) tt told.told tt tt (λ either. told.silent) told.no_memory

pub returns-in-Ok-clause-kept : goal.returns-in-Ok-clause-kept
returns-in-Ok-clause-kept g c = λ yes.
    kept_told _ _ (g.F.RecordFiles.holds c.args.files.now) _ _ _ _ _ _ _ _ c.tell_kept.ensures.told yes c.in-Ok.ensures.kept (c.tell_kept.ensures.noted yes)
