use Rattle.std.proofs.Common.{◌≡◌, map, take}
use Rattle.arrayvec.specs.ArrayVec.{array_vec_len}
use Rattle.pdr_repository.proofs.lawful_list.handles_of.Given as goal

abbrev pub invariant-loop-record : goal.invariant-loop-record
invariant-loop-record l = record {
  handles : l.handles.items ≡ map (λ r. r.0) (take l.record-index l.records);
  counted : array_vec_len l.handles ≡ l.record-index;
}
