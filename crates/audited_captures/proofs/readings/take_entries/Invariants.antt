use Rattle.std.proofs.Common.{◌≡◌, ◌++◌, map, take}
use Rattle.mctp_control.specs.RouteEntries.{entry_value}
use Rattle.audited_captures.specs.Turns.{entry_values}
use Rattle.audited_captures.proofs.readings.take_entries.Given as goal

abbrev pub invariant-loop-entry : goal.invariant-loop-entry
invariant-loop-entry l = entry_values l.entries.items ≡ entry_values l.initial.entries.items ++ map entry_value (take l.entry-index l.told)
