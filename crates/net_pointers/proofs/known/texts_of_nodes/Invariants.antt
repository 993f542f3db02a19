-- The names that were passed.
use Rattle.std.proofs.Common.{◌≡◌, map, take}
use Rattle.plan_values.specs.PlanValues.{name_bytes}
use Rattle.net_pointers.proofs.known.texts_of_nodes.Given as goal

abbrev pub invariant-loop-node : goal.invariant-loop-node
invariant-loop-node l = map (λ name. name.now) l.names.items ≡ map (λ n. name_bytes n.name) (take l.node-index l.nodes)
