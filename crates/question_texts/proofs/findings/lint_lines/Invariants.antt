use Rattle.std.{proofs.Common.{◌≡◌, string_bytes, take}, specs.List.{flat_map}}
use Rattle.question_texts.specs.FindingLines.{finding_line}
use Rattle.question_texts.proofs.findings.lint_lines.Given as goal

abbrev pub invariant-loop-finding : goal.invariant-loop-finding
invariant-loop-finding l = string_bytes l.lines ≡ flat_map (finding_line l.plan) (take l.finding-index l.findings)
