use Rattle.std.proofs.Common.{take}
use Rattle.pdr_repository.specs.Records.{entries}
use Rattle.audited_captures.{specs.RecordParts.{record_part_value}, specs.AsPlanned.{IsAmong}, specs.RecordSteps.{IsVerdictOver}}
use Rattle.audited_captures.proofs.record_readings.verdict_over.Given as goal

abbrev pub invariant-loop-start : goal.invariant-loop-start
invariant-loop-start l = IsVerdictOver (entries l.records) l.place (λ o. IsAmong o (take l.start-index l.starts)) (record_part_value l.part) l.verdict
