use Rattle.plan_commands.specs.Making.{AreHeld}
use Rattle.plan_commands.proofs.make.read_files.Given as goal

abbrev pub invariant-loop-index : goal.invariant-loop-index
invariant-loop-index g l = AreHeld (g.F.RecordFiles.holds l.files) l.list.items
