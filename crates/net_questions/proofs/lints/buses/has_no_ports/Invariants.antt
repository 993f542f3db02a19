use Rattle.std.proofs.Common.{ℕ, ◌<◌}
use Rattle.net_questions.specs.Buses.{HasPortOn}
use Rattle.net_questions.proofs.lints.buses.has_no_ports.Given as goal

abbrev pub invariant-loop-node : goal.invariant-loop-node
invariant-loop-node l = (n : ℕ) → n < l.node → ¬ HasPortOn l.plan l.bus n
