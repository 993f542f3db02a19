use Rattle.std.proofs.Common.{ℕ, ◌<◌, get_or}
use Rattle.pdr_repository.specs.Records.{IsRecordOf}
use Rattle.pdr_repository.proofs.lawful_list.are_records.Given as goal

abbrev pub invariant-loop-record : goal.invariant-loop-record
invariant-loop-record l = (k : ℕ) (d : _) → k < l.record-index → IsRecordOf (get_or l.records k d).0 (get_or l.records k d).1.items
