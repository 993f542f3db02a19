use Rattle.std.proofs.Common.{map, take}
use Rattle.bus_captures.specs.Values.{entry_value}
use Rattle.audited_captures.specs.Refusals.{AreRefusals}
use Rattle.audited_captures.proofs.refusals.refusals_of.Given as goal

abbrev pub invariant-loop-i : goal.invariant-loop-i
invariant-loop-i l = AreRefusals l.unit (map entry_value (take l.i l.capture.entries.items)) l.refusals.items
