use Rattle.std.proofs.Common.{ℕ, ◌<◌}
use Rattle.net_questions.specs.Lint.{HasAddressOn}
use Rattle.net_questions.proofs.lints.ports.has_addresses.Given as goal

abbrev pub invariant-loop-node : goal.invariant-loop-node
invariant-loop-node l = (m : ℕ) → m < l.node → ¬ HasAddressOn l.plan l.bus m
