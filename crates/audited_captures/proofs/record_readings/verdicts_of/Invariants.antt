use Rattle.std.proofs.Common.{map}
use Rattle.pdr_repository.specs.Records.{entries}
use Rattle.audited_captures.{specs.RecordParts.{record_part_value}, specs.RecordSteps.{AreLeads, AreVerdicts}}
use Rattle.audited_captures.proofs.record_readings.verdicts_of.Given as goal

abbrev pub invariant-loop-part : goal.invariant-loop-part
invariant-loop-part l = AreLeads (entries l.records) (map record_part_value l.parts) l.part-index l.leads.items × AreVerdicts (entries l.records) (map record_part_value l.parts) l.part-index l.verdicts.items
