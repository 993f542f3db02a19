use Rattle.std.proofs.Common.{subst, true}
use Rattle.pdr_repository.specs.Records.{entries}
use Rattle.audited_captures.{specs.RecordParts.{record_part_value}, specs.RecordReadings.{IsPartAt}}
use Rattle.audited_captures.proofs.record_readings.lead_from.Goals as goal

pub returns-in_default : goal.returns-in_default
returns-in_default c = λ l same hands.
    c.in_default.ensures hands.part true (subst (λ k. IsPartAt (entries c.args.records.now) k c.args.offset (record_part_value c.args.part.now) hands.part true) same hands.is)
