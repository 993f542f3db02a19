use Rattle.pdr_repository.specs.Records.{entries}
use Rattle.audited_captures.{specs.RecordParts.{record_part_value}, proofs.RecordLaws.{fault_not, told_of_part}}
use Rattle.audited_captures.proofs.record_readings.part_at.Goals as goal

pub returns-in-Some : goal.returns-in-Some
returns-in-Some c =
    let records = entries c.args.records.now in
    let x = record_part_value c.args.part.now in
    λ p left part. fault_not records c.args.place c.args.offset x c.in-Some.field-0 c.in-Some.ensures (told_of_part records c.args.place c.args.offset x p left part)
