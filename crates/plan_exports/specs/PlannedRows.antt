-- The rows of a planned node as texts show them.
use Rattle.std.{specs.Prelude.{◌≡◌, ℕ, List, Option, map}, specs.List.Sorted.{IsPermutation}}
use Rattle.mctp_routing.{specs.declared.row.TableRow.{TableRow}, specs.Rows.{IsTable}}
use Rattle.plan_values.specs.declared.plan.Plan.{Plan}
use Rattle.net_tables.{specs.Routing.{rows_of}, specs.Rows.{bus_of}, specs.Tables.{table_row}}
use Rattle.plan_exports.{specs.Neighbors.{neighbor_of}, specs.declared.rows.PlannedRow.{PlannedRow}}

-- `size` endpoint IDs from the first on, the port and its bus, the next node, that node's endpoint ID, and its address
-- on the bus
pub record RowFacts : Type 0 where
  pub first : ℕ
  pub size : ℕ
  pub port : ℕ
  pub bus : Option ℕ
  pub next : ℕ
  pub eid : ℕ
  pub address : List ℕ

abbrev pub row_facts : PlannedRow → RowFacts
row_facts row = record {
  first = row.first.value;
  size = row.size;
  port = row.port;
  bus = row.bus;
  next = row.next;
  eid = row.eid.value;
  address = row.address.now;
}

-- what the plan says of a row of n
abbrev pub facts_of : Plan → ℕ → TableRow → RowFacts
facts_of plan n row = record {
  first = row.first.value;
  size = row.size;
  port = row.hop.port;
  bus = bus_of plan n row.hop.port;
  next = row.hop.next;
  eid = (neighbor_of plan n row.hop).eid;
  address = (neighbor_of plan n row.hop).address;
}

-- the rows of n, each once, those of lower endpoint IDs first
pub record IsOrdered (plan : Plan) (n : ℕ) (table : List TableRow) : Type 0 where
  pub rows : IsPermutation (map table_row (rows_of plan n)) table
  pub ordered : IsTable table

-- These are the rows of n in this order, each with its next node's endpoint ID, and its address on the bus of the port.
pub record ArePlannedRows (plan : Plan) (n : ℕ) (rows : List RowFacts) : Type 0 where
  pub table : List TableRow
  pub ordered : IsOrdered plan n table
  pub facts : rows ≡ map (facts_of plan n) table
