use Rattle.plan_commands.proofs.Kept.{kept_so}
use Rattle.plan_commands.proofs.keeping.kept_answer.Goals as goal

pub returns-in-Made-clause-kept : goal.returns-in-Made-clause-kept
returns-in-Made-clause-kept g c =
    let made = c.kept_made.ensures in
    kept_so _ _ (g.F.RecordFiles.holds c.args.files.now) _ _ c.in_ok-made.field-0 c.in-Made.made c.kept_made.result c.in-Made.is c.in_ok-made.ensures made.status made.text made.notes made.written
