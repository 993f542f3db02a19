use Rattle.std.proofs.Common.{[], ◌∷◌}
use Rattle.net_questions.{specs.Findings.{Adds, order_of}, proofs.Ascending.{Below}}
use Rattle.net_questions.proofs.linting.add_at_site.Given as goal

abbrev pub invariant-loop-item : goal.invariant-loop-item
invariant-loop-item l = Adds (Below l.plan (order_of l.code ∷ l.site ∷ []) l.item) l.initial.findings.items l.findings.items
