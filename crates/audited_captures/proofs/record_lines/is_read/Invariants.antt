use Rattle.std.{proofs.Common.{◌≡◌, drop}, specs.List.{list_any}}
use Rattle.audited_captures.specs.RecordLines.{reads_end}
use Rattle.audited_captures.proofs.record_lines.is_read.Given as goal

abbrev pub invariant-loop-verdict : goal.invariant-loop-verdict
invariant-loop-verdict l = list_any (reads_end l.place) l.verdicts ≡ list_any (reads_end l.place) (drop l.verdict-index l.verdicts)
