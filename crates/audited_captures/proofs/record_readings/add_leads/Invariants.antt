use Rattle.std.proofs.Common.{take}
use Rattle.pdr_repository.specs.Records.{entries}
use Rattle.audited_captures.{specs.RecordParts.{record_part_value}, specs.RecordSteps.{AddsLeads}}
use Rattle.audited_captures.proofs.record_readings.add_leads.Given as goal

abbrev pub invariant-loop-start : goal.invariant-loop-start
invariant-loop-start l = AddsLeads (entries l.records) l.place (take l.start-index l.starts) (record_part_value l.part) l.initial.leads.items l.leads.items
