use Rattle.std.{proofs.Common.{◌≡◌, map, take}, specs.List.{flat_map}}
use Rattle.plan_differences.specs.Facts.{fact_value, facts_of_node}
use Rattle.plan_differences.proofs.facts.facts_of_nodes.Given as goal

abbrev pub invariant-loop-node : goal.invariant-loop-node
invariant-loop-node l = map fact_value l.facts.items ≡ flat_map (facts_of_node l.plan) (take l.node-index l.plan.nodes.items)
