use Rattle.std.proofs.Common.{◌≡◌, map, take}
use Rattle.plan_exports.specs.PlannedRows.{facts_of, row_facts}
use Rattle.plan_exports.proofs.rows.facts_of_rows.Given as goal

abbrev pub invariant-loop-row : goal.invariant-loop-row
invariant-loop-row l = map row_facts l.list.items ≡ map (facts_of l.plan l.node) (take l.row-index l.rows)
