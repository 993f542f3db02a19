use Rattle.verify_commands.proofs.Held.{held_more}
use Rattle.verify_commands.proofs.boards.read_records.Goals as goal

pub loop-index-preserved : goal.loop-index-preserved
loop-index-preserved g c = rw c.in_ok-push.ensures.items
    (held_more (g.R.RecordFiles.holds c.args.records.now) c.loop-index.list.items c.in_ok-read_record.field-0 c.loop-index.invariant
    c.in_ok-read_record.ensures)
