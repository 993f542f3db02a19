use Rattle.std.proofs.Common.{◌≡◌, ◌≤◌, length, take}
use Rattle.mctp_control.specs.EntryLists.{entries_bytes, values_of}
use Rattle.mctp_control.proofs.replies.fitting.Given as goal

abbrev pub invariant-loop-count : goal.invariant-loop-count
invariant-loop-count l = record {
  bytes : l.bytes ≡ length (entries_bytes (values_of (take l.count l.entries)));
  fit : l.bytes ≤ 58;
}
