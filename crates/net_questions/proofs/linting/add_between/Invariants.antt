use Rattle.std.proofs.Common.{[], ◌∷◌}
use Rattle.net_questions.{specs.Findings.{Adds, order_of}, proofs.Ascending.{Below}}
use Rattle.net_questions.proofs.linting.add_between.Given as goal

abbrev pub invariant-loop-other_item : goal.invariant-loop-other_item
invariant-loop-other_item l = Adds (Below l.plan (order_of l.code ∷ l.site ∷ l.item ∷ l.other ∷ []) l.other_item) l.initial.findings.items l.findings.items
