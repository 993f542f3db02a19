use Rattle.std.proofs.Common.{◌≡◌, length, map, take}
use Rattle.plan_values.specs.NodeValues.{port_value}
use Rattle.net_rollout.proofs.changed_plan.copied_ports.Given as goal

abbrev pub invariant-loop-port : goal.invariant-loop-port
invariant-loop-port l = (map port_value l.copies.items ≡ map port_value (take l.port-index l.ports)) × (length l.copies.items ≡ l.port-index)
