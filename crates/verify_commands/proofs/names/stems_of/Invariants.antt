use Rattle.std.proofs.Common.{map, string_bytes, take}
use Rattle.verify_commands.specs.Runs.{AreStems}
use Rattle.verify_commands.proofs.names.stems_of.Given as goal

abbrev pub invariant-loop-index : goal.invariant-loop-index
invariant-loop-index l = AreStems (take l.index (map string_bytes l.files)) (map string_bytes l.stems.items)
