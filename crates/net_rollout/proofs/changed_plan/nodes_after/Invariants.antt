use Rattle.net_rollout.specs.Steps.{AreNodesAfter}
use Rattle.net_rollout.proofs.changed_plan.nodes_after.Given as goal

abbrev pub invariant-loop-index : goal.invariant-loop-index
invariant-loop-index l = AreNodesAfter l.here l.new l.change l.index l.nodes.items
