use Rattle.plan_commands.proofs.Held.{held_more}
use Rattle.plan_commands.proofs.make.read_files.Goals as goal

pub loop-index-preserved : goal.loop-index-preserved
loop-index-preserved g c = rw c.in_ok-push.ensures.items
    (held_more (g.F.RecordFiles.holds c.args.files.now) c.loop-index.list.items c.in_ok-read_file.field-0 c.loop-index.invariant
    c.in_ok-read_file.ensures.held)
