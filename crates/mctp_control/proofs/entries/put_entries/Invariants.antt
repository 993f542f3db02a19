use Rattle.std.proofs.Common.{◌≡◌, ◌++◌, length, take, drop}
use Rattle.mctp_control.specs.EntryLists.{entries_bytes, values_of}
use Rattle.mctp_control.proofs.entries.put_entries.Given as goal

abbrev pub invariant-loop-entry : goal.invariant-loop-entry
invariant-loop-entry l = record {
  at : l.at ≡ length (entries_bytes (values_of (take l.entry-index l.entries)));
  written : l.out ≡ entries_bytes (values_of (take l.entry-index l.entries)) ++ drop l.at l.fn.out;
}
