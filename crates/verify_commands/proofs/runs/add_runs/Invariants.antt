use Rattle.std.proofs.Common.{◌≡◌, ◌++◌, List, map, string_bytes, take}
use Rattle.verify_commands.{specs.declared.parts.Judged.{Judged}, specs.Parts.{AreRunsSo}}
use Rattle.verify_commands.proofs.runs.add_runs.Given as goal

abbrev pub invariant-loop-index : goal.invariant-loop-index
invariant-loop-index g l = (more : List Judged) × (l.told.items ≡ l.fn.told.items ++ more)
    × AreRunsSo (g.F.FolderFiles.reads l.folder) l.plan (take l.index (map string_bytes l.names.items)) more
