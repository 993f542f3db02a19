use Rattle.std.proofs.Common.{◌≡◌, take}
use Rattle.pdr_repository.specs.Records.{entries}
use Rattle.plan_exports.specs.Repositories.{joined_bytes}
use Rattle.plan_exports.proofs.repositories.joined_records.Given as goal

abbrev pub invariant-loop-record : goal.invariant-loop-record
invariant-loop-record l = l.bytes.items ≡ joined_bytes (entries (take l.record-index l.records))
