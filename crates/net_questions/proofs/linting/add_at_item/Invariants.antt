use Rattle.std.proofs.Common.{[], ◌∷◌}
use Rattle.net_questions.{specs.Findings.{Adds, order_of}, proofs.Ascending.{Below}}
use Rattle.net_questions.proofs.linting.add_at_item.Given as goal

abbrev pub invariant-loop-other : goal.invariant-loop-other
invariant-loop-other l = Adds (Below l.plan (order_of l.code ∷ l.site ∷ l.item ∷ []) l.other) l.initial.findings.items l.findings.items
