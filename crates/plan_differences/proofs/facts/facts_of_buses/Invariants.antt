use Rattle.std.proofs.Common.{◌≡◌, map, take}
use Rattle.plan_differences.specs.Facts.{fact_value, bus_fact}
use Rattle.plan_differences.proofs.facts.facts_of_buses.Given as goal

abbrev pub invariant-loop-bus : goal.invariant-loop-bus
invariant-loop-bus l = map fact_value l.facts.items ≡ map bus_fact (take l.bus-index l.buses)
