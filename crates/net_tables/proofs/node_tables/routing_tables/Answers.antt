use Rattle.std.proofs.Common.{◌+◌, List, ◌++◌, ◌∷◌, [], map, sym, subst}
use Rattle.mctp_routing.specs.Rows.{HasSameRoutes}
use Rattle.plan_values.specs.declared.nodes.Row.{Row}
use Rattle.net_tables.{specs.Tables.{AreRows, AreTabled, table_row}, proofs.TableLaws.{none_tabled, more_tabled}}
use Rattle.mctp_routing.specs.declared.row.TableRow as bridge
use Rattle.net_tables.proofs.node_tables.routing_tables.Goals as goal

pub loop-node-init : goal.loop-node-init
loop-node-init c =
    let P : List (List bridge.TableRow) → Type 0 = AreTabled c.args.plan.now 0 in
    subst P (sym c.new-tables.ensures.items) (none_tabled c.args.plan.now)

pub routing_table-requires : goal.routing_table-requires
routing_table-requires c =
    let P : List Row → Type 0 = AreRows in
    subst P (sym c.rows_at.ensures) (λ r row is. (c.requires.apart c.loop-node.node r row is, c.requires.in_range c.loop-node.node r row is))

pub loop-node-preserved : goal.loop-node-preserved
loop-node-preserved c =
    let plan = c.args.plan.now in
    let tables = c.loop-node.tables.items in
    let table = c.in_ok-routing_table.field-0 in
    let P : List Row → Type 0 = λ rows. HasSameRoutes (map table_row rows) table in
    let more : AreTabled plan (c.loop-node.node + 1) (tables ++ table ∷ []) =
    more_tabled plan c.loop-node.node tables table c.loop-node.invariant (subst P c.rows_at.ensures c.in_ok-routing_table.ensures.routes) in
    rw c.in_ok-push.ensures.items more
