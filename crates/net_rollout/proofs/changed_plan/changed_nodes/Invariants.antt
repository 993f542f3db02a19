use Rattle.net_rollout.proofs.Made.{AreChangedBefore}
use Rattle.net_rollout.proofs.changed_plan.changed_nodes.Given as goal

abbrev pub invariant-loop-node : goal.invariant-loop-node
invariant-loop-node l = AreChangedBefore l.before l.after l.node l.nodes.items
