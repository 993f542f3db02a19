use Rattle.std.proofs.Common.{[]}
use Rattle.net_questions.{specs.Findings.{Adds}, proofs.Ascending.{Below}}
use Rattle.net_questions.proofs.linting.lint.Given as goal

abbrev pub invariant-loop-code : goal.invariant-loop-code
invariant-loop-code l = Adds (Below l.plan [] l.code-index) [] l.findings.items
