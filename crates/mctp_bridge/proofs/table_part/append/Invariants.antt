use Rattle.std.proofs.Common.{◌≡◌, ◌+◌, ◌≤◌, ◌++◌, length, vec_len, vec_capacity}
use Rattle.mctp_bridge.proofs.table_part.append.Given as goal

abbrev pub invariant-loop-entry : goal.invariant-loop-entry
invariant-loop-entry l = record {
  joined : l.list.items ++ l.entry-iterator ≡ l.initial.list.items ++ l.initial.entry-iterator;
  room : vec_len l.list + length l.entry-iterator ≤ vec_capacity l.list;
  capacity : vec_capacity l.list ≡ vec_capacity l.initial.list;
}
