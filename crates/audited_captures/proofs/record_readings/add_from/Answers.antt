use Rattle.std.proofs.Common.{◌≡◌, ◌⊎◌, ◌↔◌}
use Rattle.pdr_repository.specs.Records.{entries}
use Rattle.audited_captures.{specs.RecordParts.{record_part_value}, specs.AsPlanned.{IsAmong}, specs.RecordSteps.{IsLeadFrom}, specs.declared.record_readings.Lead.{Lead}, proofs.RecordLaws.{none_added, one_added, on_also}}
use Rattle.audited_captures.proofs.record_readings.add_from.Goals as goal

pub returns-in-None : goal.returns-in-None
returns-in-None c = none_added (entries c.args.records.now) c.args.place (record_part_value c.args.part.now) c.args.offset c.args.leads.now.items c.in-None.ensures

pub returns-in-Some : goal.returns-in-Some
returns-in-Some c =
    let records = entries c.args.records.now in
    let x = record_part_value c.args.part.now in
    let old = c.args.leads.now.items in
    let new = c.add_lead.new.leads.items in
    on_also ((l : Lead) → IsAmong l new ↔ (IsAmong l old ⊎ (c.in-Some.lead ≡ l))) ((l : Lead) → IsAmong l new ↔ (IsAmong l old ⊎ ((l.place ≡ c.args.place) × IsLeadFrom records c.args.offset x l)))
    c.add_lead.result (one_added records c.args.place x c.args.offset old new c.in-Some.lead c.in-Some.ensures) c.add_lead.ensures
