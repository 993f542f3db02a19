use Rattle.std.proofs.Common.{map, string_bytes, take}
use Rattle.verify_commands.specs.Runs.{AreNames}
use Rattle.verify_commands.proofs.names.each_once.Given as goal

abbrev pub invariant-loop-index : goal.invariant-loop-index
invariant-loop-index l = AreNames (take l.index (map string_bytes l.names)) (map string_bytes l.once.items)
