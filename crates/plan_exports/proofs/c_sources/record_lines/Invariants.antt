use Rattle.std.proofs.Common.{◌≡◌, ◌++◌, drop, string_bytes}
use Rattle.pdr_repository.specs.Records.{entries}
use Rattle.plan_exports.specs.CSources.{record_lines}
use Rattle.plan_exports.proofs.c_sources.record_lines.Given as goal

-- with the lines that are left, they are all
abbrev pub invariant-loop-record : goal.invariant-loop-record
invariant-loop-record l = string_bytes l.text ++ record_lines l.offset (entries (drop l.record-index l.records)) ≡ record_lines 0 (entries l.records)
