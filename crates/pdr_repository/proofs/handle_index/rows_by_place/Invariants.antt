use Rattle.std.proofs.Common.{◌≡◌, ◌≤◌, length, take, vec_capacity, vec_len}
use Rattle.pdr_repository.specs.Indexes.{rows_of}
use Rattle.pdr_repository.proofs.handle_index.rows_by_place.Given as goal

abbrev pub invariant-loop-place : goal.invariant-loop-place
invariant-loop-place l = record {
  rows : l.rows.items ≡ rows_of (take l.place l.records);
  counted : vec_len l.rows ≡ l.place;
  room : length l.records ≤ vec_capacity l.rows;
}
