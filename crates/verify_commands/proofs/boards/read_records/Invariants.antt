use Rattle.verify_commands.specs.Boards.{AreHeld}
use Rattle.verify_commands.proofs.boards.read_records.Given as goal

abbrev pub invariant-loop-index : goal.invariant-loop-index
invariant-loop-index g l = AreHeld (g.R.RecordFiles.holds l.records) l.list.items
