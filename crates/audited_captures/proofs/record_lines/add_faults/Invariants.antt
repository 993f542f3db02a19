use Rattle.std.proofs.Common.{map, take}
use Rattle.audited_captures.{specs.Lines.{line_value}, specs.RecordLines.{fault_count, AddsDifferences}}
use Rattle.audited_captures.proofs.record_lines.add_faults.Given as goal

abbrev pub invariant-loop-verdict : goal.invariant-loop-verdict
invariant-loop-verdict l = AddsDifferences (map line_value l.initial.lines.items) (map line_value l.lines.items) (fault_count (take l.verdict-index l.verdicts))
