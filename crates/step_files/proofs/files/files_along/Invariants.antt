use Rattle.std.proofs.Common.{map, take}
use Rattle.step_files.specs.StepFiles.{AreFilesAlong, file_value}
use Rattle.step_files.proofs.files.files_along.Given as goal

abbrev pub invariant-loop-index : goal.invariant-loop-index
invariant-loop-index l = AreFilesAlong l.folder l.count 1 l.before (take l.index l.steps) (map file_value l.files.items)
