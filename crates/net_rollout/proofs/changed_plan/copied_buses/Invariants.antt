use Rattle.std.proofs.Common.{◌≡◌, length, map, take}
use Rattle.plan_values.specs.NodeValues.{bus_value}
use Rattle.net_rollout.proofs.changed_plan.copied_buses.Given as goal

abbrev pub invariant-loop-bus : goal.invariant-loop-bus
invariant-loop-bus l = (map bus_value l.copies.items ≡ map bus_value (take l.bus-index l.buses)) × (length l.copies.items ≡ l.bus-index)
