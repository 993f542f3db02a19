use Rattle.std.proofs.Common.{ℕ, ◌<◌}
use Rattle.net_questions.specs.Lint.{HasOtherOn}
use Rattle.net_questions.proofs.lints.ports.is_alone.Given as goal

abbrev pub invariant-loop-other : goal.invariant-loop-other
invariant-loop-other l = (m : ℕ) → m < l.other → ¬ HasOtherOn l.plan l.bus m l.node l.port
