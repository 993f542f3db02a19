-- A plan as plain lists and numbers.
use Rattle.std.specs.Prelude.{ℕ, List, map}
use Rattle.plan_values.specs.declared.plan.Plan.{Plan}
pub use Rattle.plan_values.specs.NodeValues.{BusValue, PortValue, RowValue, PoolValue, RecordValue, TerminusValue, NodeValue, name_bytes, bus_value, bus_names, node_names, port_value, row_value, pool_value, record_value, terminus_value, node_value}

-- `unit` is the transmission unit
pub record PlanValue : Type 0 where
  pub unit : ℕ
  pub buses : List BusValue
  pub nodes : List NodeValue

abbrev pub plan_value : Plan → PlanValue
plan_value p = record { unit = p.unit; buses = map bus_value p.buses.items; nodes = map node_value p.nodes.items }
