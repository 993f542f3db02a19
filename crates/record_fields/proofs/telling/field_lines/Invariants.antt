use Rattle.std.proofs.Common.{map, take, string_bytes}
use Rattle.record_fields.{specs.Meanings.{named_of}, specs.Texts.{AreFieldLines}}
use Rattle.record_fields.proofs.telling.field_lines.Given as goal

abbrev pub invariant-loop-index : goal.invariant-loop-index
invariant-loop-index l = AreFieldLines (map named_of (take l.index l.fields)) (string_bytes l.text)
