-- The rows of a planned node, in the order of their endpoint IDs, and whom they lead to.
use Rattle.std.specs.Prelude.{◌≡◌, ℕ, List, map}
use Rattle.mctp_routing.specs.declared.row.TableRow.{TableRow}
use Rattle.mctp_bridge.specs.declared.routing_entries.Neighbor.{Neighbor}
use Rattle.plan_values.specs.declared.plan.Plan.{Plan}
use Rattle.net_tables.{specs.Routing.{rows_of, OfItem}, specs.Rows.{NamesNeighbor}, specs.Tables.{AreRows}}
use Rattle.plan_exports.{specs.Neighbors.{neighbor_of, neighbor_value}, specs.PlannedRows.{IsOrdered}}

-- The table has the rows of n in their order. For each of them there is the node to which it leads, with that node's
-- endpoint ID, and its address on the bus of the row's port.
pub record IsPlannedTable (plan : Plan) (n : ℕ) (table : List TableRow) (neighbors : List Neighbor) : Type 0 where
  pub ordered : IsOrdered plan n table
  pub led : map neighbor_value neighbors ≡ map (λ (row : TableRow). neighbor_of plan n row.hop) table

-- The rows of n make a routing table, and each leads to a neighbor.
pub record HasLawfulRows (plan : Plan) (n : ℕ) : Type 0 where
  pub rows : AreRows (rows_of plan n)
  pub neighbors : (r : ℕ) → OfItem (rows_of plan n) r (NamesNeighbor plan n)
