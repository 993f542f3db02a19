use Rattle.std.{proofs.Common.{◌≡◌, string_bytes, take}, specs.List.{flat_map}}
use Rattle.pdr_repository.specs.Records.{entries}
use Rattle.plan_exports.specs.CSources.{bytes_text}
use Rattle.plan_exports.proofs.c_sources.bytes_lines.Given as goal

abbrev pub invariant-loop-record : goal.invariant-loop-record
invariant-loop-record l = string_bytes l.text ≡ flat_map bytes_text (entries (take l.record-index l.records))
