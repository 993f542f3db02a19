use Rattle.std.proofs.Common.{map, drop}
use Rattle.audited_captures.{specs.Readings.{part_value}, specs.Turns.{entry_values}, proofs.ReadingLaws.{IsLeft}}
use Rattle.audited_captures.proofs.readings.read_from_0.Given as goal

abbrev pub invariant-loop-part : goal.invariant-loop-part
invariant-loop-part l = IsLeft l.requester.value l.due (map part_value (drop l.part-index l.parts)) (entry_values l.entries.items) (map part_value l.parts)
