use Rattle.std.proofs.Common.{map, take}
use Rattle.step_files.{specs.StepFiles.{file_value}, specs.Writes.{WritesAll, writes}}
use Rattle.step_files.proofs.text_files.write_files.Given as goal

abbrev pub invariant-loop-index : goal.invariant-loop-index
invariant-loop-index g l = WritesAll (writes g.F.TextFiles.account l.initial.files l.files) (map file_value (take l.index l.texts))
