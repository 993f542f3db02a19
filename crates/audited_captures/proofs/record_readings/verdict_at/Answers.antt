use Rattle.pdr_repository.specs.Records.{entries}
use Rattle.audited_captures.{specs.RecordParts.{record_part_value}, proofs.RecordLaws.{refused_if}}
use Rattle.audited_captures.proofs.record_readings.verdict_at.Goals as goal

pub returns-in-None : goal.returns-in-None
returns-in-None c =
    (refused_if (entries c.args.records.now) c.args.place c.args.offset (record_part_value c.args.part.now) c.in_default.ensures c.in-None.ensures, c.in_default.ensures)
