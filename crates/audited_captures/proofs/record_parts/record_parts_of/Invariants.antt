use Rattle.std.proofs.Common.{map, take}
use Rattle.audited_captures.{specs.Words.{word_value}, specs.RecordParts.{record_part_value, AreRecordParts}}
use Rattle.audited_captures.proofs.record_parts.record_parts_of.Given as goal

abbrev pub invariant-loop-i : goal.invariant-loop-i
invariant-loop-i l = AreRecordParts l.eid.value (map word_value (take l.i l.words)) (map record_part_value l.parts.items)
