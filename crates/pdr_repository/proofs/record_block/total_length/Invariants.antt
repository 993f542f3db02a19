use Rattle.std.{proofs.Common.{◌≡◌, ◌*◌, ◌≤◌, ◌^◌, take, length}, specs.Prelude.{sum_by}}
use Rattle.pdr_repository.proofs.record_block.total_length.Given as goal

abbrev pub invariant-loop-record : goal.invariant-loop-record
invariant-loop-record l = (l.total ≡ sum_by (λ r. length r.1.items) (take l.record-index l.records)) × (l.total ≤ 2 ^ 32 * l.record-index)
