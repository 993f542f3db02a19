use Rattle.std.proofs.Common.{◌≡◌, ◌≤◌}
use Rattle.audited_captures.specs.RecordLines.{missing_count}
use Rattle.audited_captures.proofs.record_lines.missing_count.Given as goal

abbrev pub invariant-loop-place : goal.invariant-loop-place
invariant-loop-place l = (l.missing ≡ missing_count l.verdicts l.place) × (l.missing ≤ l.place)
