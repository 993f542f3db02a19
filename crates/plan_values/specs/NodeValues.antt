-- Buses and nodes as plain lists and numbers.
use Rattle.std.specs.Prelude.{ℕ, List, [], map, string_bytes, Option, option_map}
use Rattle.plan_values.{specs.declared.name.Name.{Name}, specs.declared.nodes.Bus.{Bus}, specs.declared.nodes.Kind.{Kind}, specs.declared.nodes.Node.{Node}, specs.declared.nodes.Pool.{Pool}, specs.declared.nodes.Port.{Port}, specs.declared.nodes.Row.{Row}, specs.declared.terminus.PlannedRecord.{PlannedRecord}, specs.declared.terminus.PlannedTerminus.{PlannedTerminus}}

pub record BusValue : Type 0 where
  pub name : List ℕ
  pub binding : ℕ
  pub media : ℕ

-- `bus` is the index of the bus in the plan's list
pub record PortValue : Type 0 where
  pub bus : ℕ
  pub address : List ℕ

-- `next` is the index of the next node in the plan's list
pub record RowValue : Type 0 where
  pub first : ℕ
  pub size : ℕ
  pub port : ℕ
  pub next : ℕ

-- `size` endpoint IDs from the first on
pub record PoolValue : Type 0 where
  pub first : ℕ
  pub size : ℕ

-- `next` is the handle of the record that follows
pub record RecordValue : Type 0 where
  pub handle : ℕ
  pub next : ℕ
  pub bytes : List ℕ

pub record TerminusValue : Type 0 where
  pub tid : ℕ
  pub records : List RecordValue

-- `owner` is the index of the owner in the plan's list
pub record NodeValue : Type 0 where
  pub name : List ℕ
  pub kind : Kind
  pub eid : ℕ
  pub owner : Option ℕ
  pub pool : Option PoolValue
  pub ports : List PortValue
  pub rows : List RowValue
  pub terminus : Option TerminusValue

abbrev pub name_bytes : Name → List ℕ
name_bytes n = string_bytes n.text

abbrev pub bus_value : Bus → BusValue
bus_value b = record { name = name_bytes b.name; binding = b.binding; media = b.media }

abbrev pub bus_names : List BusValue → List (List ℕ)
bus_names bs = map (λ b. b.name) bs

abbrev pub node_names : List NodeValue → List (List ℕ)
node_names ns = map (λ n. n.name) ns

abbrev pub port_value : Port → PortValue
port_value p = record { bus = p.bus; address = p.address.items }

abbrev pub row_value : Row → RowValue
row_value r = record { first = r.first.value; size = r.size; port = r.port; next = r.next }

abbrev pub pool_value : Pool → PoolValue
pool_value p = record { first = p.first.value; size = p.size }

abbrev pub record_value : PlannedRecord → RecordValue
record_value r = record { handle = r.handle; next = r.next; bytes = r.bytes.items }

abbrev pub terminus_value : PlannedTerminus → TerminusValue
terminus_value t = record { tid = t.tid; records = map record_value t.records.items }

abbrev pub node_value : Node → NodeValue
node_value n = record {
  name = name_bytes n.name;
  kind = n.kind;
  eid = n.eid.value;
  owner = n.owner;
  pool = option_map pool_value n.pool;
  ports = map port_value n.ports.items;
  rows = map row_value n.rows.items;
  terminus = option_map terminus_value n.terminus;
}

-- a node as plain values, but for its rows
abbrev pub but_rows : Node → NodeValue
but_rows node = record (node_value node) { rows = [] }
