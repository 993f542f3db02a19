use Rattle.std.proofs.Common.{length, map}
use Rattle.bus_captures.{specs.Files.{AreRead}, specs.Values.{entry_value}}
use Rattle.bus_captures.proofs.file.add_entries.Given as goal

abbrev pub invariant-loop-left : goal.invariant-loop-left
invariant-loop-left l = AreRead l.order l.unit l.link l.bytes (map entry_value l.entries.items) l.left

abbrev pub decreases-loop-left : goal.decreases-loop-left
decreases-loop-left l = length l.left
