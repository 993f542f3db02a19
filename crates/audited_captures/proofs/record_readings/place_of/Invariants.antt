use Rattle.std.{proofs.Common.{◌≡◌, ◌+◌, drop}, specs.List.{position_or_len}}
use Rattle.pdr_repository.specs.Records.{entries}
use Rattle.audited_captures.specs.RecordReadings.{is_meant_by}
use Rattle.audited_captures.proofs.record_readings.place_of.Given as goal

abbrev pub invariant-loop-i : goal.invariant-loop-i
invariant-loop-i l = position_or_len (is_meant_by l.handle) (entries l.records) ≡ l.i + position_or_len (is_meant_by l.handle) (entries (drop l.i l.records))
