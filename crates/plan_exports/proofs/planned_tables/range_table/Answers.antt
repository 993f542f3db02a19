use Rattle.std.proofs.Common.{List, subst, sym}
use Rattle.plan_values.specs.declared.nodes.Row.{Row}
use Rattle.net_tables.specs.Tables.{AreRows}
use Rattle.plan_exports.proofs.planned_tables.range_table.Goals as goal

pub routing_table-requires : goal.routing_table-requires
routing_table-requires c = subst (λ (rows : List Row). AreRows rows) (sym c.rows_at.ensures) c.requires
