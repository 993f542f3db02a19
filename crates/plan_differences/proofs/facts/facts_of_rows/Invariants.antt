use Rattle.std.proofs.Common.{◌≡◌, map, take}
use Rattle.plan_differences.specs.Facts.{fact_value, row_fact}
use Rattle.plan_differences.proofs.facts.facts_of_rows.Given as goal

abbrev pub invariant-loop-row : goal.invariant-loop-row
invariant-loop-row l = map fact_value l.facts.items ≡ map (row_fact l.plan l.node) (take l.row-index l.rows)
