use Rattle.std.proofs.Common.{[], ◌∷◌}
use Rattle.net_questions.{specs.Findings.{Adds, order_of}, proofs.Ascending.{Below}}
use Rattle.net_questions.proofs.linting.add_of_code.Given as goal

abbrev pub invariant-loop-site : goal.invariant-loop-site
invariant-loop-site l = Adds (Below l.plan (order_of l.code ∷ []) l.site) l.initial.findings.items l.findings.items
