use Rattle.std.{proofs.Common.{◌≡◌, drop}, specs.List.{list_any}}
use Rattle.audited_captures.specs.RecordLines.{is_judged}
use Rattle.audited_captures.proofs.record_lines.is_some_judged.Given as goal

abbrev pub invariant-loop-verdict : goal.invariant-loop-verdict
invariant-loop-verdict l = list_any is_judged l.verdicts ≡ list_any is_judged (drop l.verdict-index l.verdicts)
