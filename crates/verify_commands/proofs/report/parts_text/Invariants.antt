use Rattle.std.proofs.Common.{◌≡◌, string_bytes, take}
use Rattle.verify_commands.specs.Reports.{parts_text}
use Rattle.verify_commands.proofs.report.parts_text.Given as goal

abbrev pub invariant-loop-judged : goal.invariant-loop-judged
invariant-loop-judged l = string_bytes l.text ≡ parts_text (take l.judged-index l.told)
