use Rattle.std.proofs.Common.{◌≡◌, map, take}
use Rattle.plan_differences.specs.Facts.{fact_value, port_facts}
use Rattle.plan_differences.proofs.facts.facts_of_ports.Given as goal

abbrev pub invariant-loop-index : goal.invariant-loop-index
invariant-loop-index l = map fact_value l.facts.items ≡ port_facts l.plan l.node 0 (take l.index l.ports)
