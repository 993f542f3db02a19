use Rattle.std.proofs.Common.{◌∙◌, ap, sym}
use Rattle.pdr_repository.specs.Records.{entry_of, entries}
use Rattle.audited_captures.{specs.RecordParts.{record_part_value}, proofs.RecordLaws.{item_at, match_at}}
use Rattle.audited_captures.proofs.record_readings.fault_at.Goals as goal

pub returns : goal.returns
returns c =
    let items = c.args.records.now in
    let item = c.index-records-place.result in
    match_at (entries items) c.args.place c.handle_behind.result c.args.offset c.deref.result.now (record_part_value c.args.part.now) (entry_of item) c.fault_from.result
    (item_at entry_of items c.args.place item c.requires c.index-records-place.is) c.handle_behind.ensures (c.deref.ensures.value ∙ ap (λ r. r.1.items) (sym c.index-records-place.is)) c.fault_from.ensures
