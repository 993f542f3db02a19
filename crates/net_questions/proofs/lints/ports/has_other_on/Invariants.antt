use Rattle.std.proofs.Common.{ℕ, ◌<◌}
use Rattle.net_tables.specs.Routing.{OfItem}
use Rattle.net_questions.specs.Lint.{IsOtherOn}
use Rattle.net_questions.proofs.lints.ports.has_other_on.Given as goal

abbrev pub invariant-loop-index : goal.invariant-loop-index
invariant-loop-index l = (k : ℕ) → k < l.index → OfItem l.ports k (λ b. ¬ IsOtherOn l.bus l.other l.node l.port k b)
