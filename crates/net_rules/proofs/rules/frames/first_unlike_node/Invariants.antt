use Rattle.std.proofs.Common.{ℕ, ◌<◌}
use Rattle.net_rules.specs.MoveRules.{IsSameNode}
use Rattle.net_rules.proofs.rules.frames.first_unlike_node.Given as goal

abbrev pub invariant-loop-node : goal.invariant-loop-node
invariant-loop-node l = (k : ℕ) → k < l.node → IsSameNode l.before l.after k
