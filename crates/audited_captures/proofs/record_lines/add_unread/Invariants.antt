use Rattle.std.proofs.Common.{map}
use Rattle.audited_captures.{specs.Lines.{line_value}, specs.RecordLines.{unread_count, AddsDifferences}}
use Rattle.audited_captures.proofs.record_lines.add_unread.Given as goal

abbrev pub invariant-loop-place : goal.invariant-loop-place
invariant-loop-place l = AddsDifferences (map line_value l.initial.lines.items) (map line_value l.lines.items) (unread_count l.verdicts l.place)
