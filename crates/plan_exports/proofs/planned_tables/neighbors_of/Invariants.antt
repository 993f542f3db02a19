use Rattle.std.proofs.Common.{◌≡◌, map, take}
use Rattle.plan_exports.specs.Neighbors.{neighbor_of, neighbor_value}
use Rattle.plan_exports.proofs.planned_tables.neighbors_of.Given as goal

abbrev pub invariant-loop-row : goal.invariant-loop-row
invariant-loop-row l = map neighbor_value l.list.items ≡ map (λ row. neighbor_of l.plan l.node row.hop) (take l.row-index l.rows)
