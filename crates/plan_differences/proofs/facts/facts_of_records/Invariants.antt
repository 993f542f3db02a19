use Rattle.std.proofs.Common.{◌≡◌, map, take}
use Rattle.plan_differences.specs.Facts.{fact_value, record_fact}
use Rattle.plan_differences.proofs.facts.facts_of_records.Given as goal

abbrev pub invariant-loop-listed : goal.invariant-loop-listed
invariant-loop-listed l = map fact_value l.facts.items ≡ map (record_fact l.node) (take l.listed-index l.records)
