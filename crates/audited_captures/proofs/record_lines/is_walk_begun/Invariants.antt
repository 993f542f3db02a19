use Rattle.std.{proofs.Common.{◌≡◌, drop, map}, specs.List.{list_any}}
use Rattle.audited_captures.{specs.RecordParts.{record_part_value}, specs.RecordReadings.{begins_walk}}
use Rattle.audited_captures.proofs.record_lines.is_walk_begun.Given as goal

abbrev pub invariant-loop-part : goal.invariant-loop-part
invariant-loop-part l = list_any begins_walk (map record_part_value l.parts) ≡ list_any begins_walk (map record_part_value (drop l.part-index l.parts))
