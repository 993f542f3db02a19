use Rattle.std.{proofs.Common.{◌≡◌, length, take}, specs.List.{AllByRecursion}}
use Rattle.mctp_control.{specs.RouteEntries.{IsEntry}, specs.EntryLists.{entries_bytes, values_of}}
use Rattle.mctp_control.proofs.entries.byte_count.Given as goal

abbrev pub invariant-loop-entry : goal.invariant-loop-entry
invariant-loop-entry l = record {
  each : AllByRecursion IsEntry (values_of (take l.entry-index l.entries));
  count : l.count ≡ length (entries_bytes (values_of (take l.entry-index l.entries)));
}
