use Rattle.std.{proofs.Common.{◌≡◌, drop}, specs.List.{list_any}}
use Rattle.audited_captures.specs.RecordLines.{differs_at}
use Rattle.audited_captures.proofs.record_lines.has_fault.Given as goal

abbrev pub invariant-loop-verdict : goal.invariant-loop-verdict
invariant-loop-verdict l = list_any (differs_at l.place) l.verdicts ≡ list_any (differs_at l.place) (drop l.verdict-index l.verdicts)
