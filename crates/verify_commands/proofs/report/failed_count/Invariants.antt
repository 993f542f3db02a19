use Rattle.std.proofs.Common.{◌≡◌, take}
use Rattle.verify_commands.specs.Reports.{failed_count}
use Rattle.verify_commands.proofs.report.failed_count.Given as goal

abbrev pub invariant-loop-judged : goal.invariant-loop-judged
invariant-loop-judged l = l.failed ≡ failed_count (take l.judged-index l.told)
