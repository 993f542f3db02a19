-- Which plan a JSON value is.
use Rattle.std.specs.Prelude.{ℕ, ◌≡◌, ◌≢◌, codes, List, AllPairs}
use Rattle.serde_json.specs.Data.{Data}
use Rattle.net_plan.{specs.JsonWords.{HasKeys, At, IsShortListOf, IsOptional, IsNumber, IsNumberWithin, IsName, IsText, IsHex, IsAddress, IsIndexOfName}, specs.Keys.{plan_keys, bus_keys, port_keys, row_keys, pool_keys, record_keys, terminus_keys, node_keys}, specs.declared.plan_format.PlanFormat.{PlanFormat}, specs.declared.plan_format.PlanFormat.TheVariants.{One, Two}}
use Rattle.plan_values.{specs.PlanValues.{BusValue, PortValue, RowValue, PoolValue, RecordValue, TerminusValue, NodeValue, PlanValue, bus_names, node_names}, specs.declared.nodes.Kind.{Kind}, specs.declared.nodes.Kind.TheVariants.{Bridge, Endpoint}}

abbrev pub IsByte : Data → ℕ → Type 0
IsByte d n = IsNumberWithin 0 255 d n

-- a number of 32 bits
abbrev pub IsWord : Data → ℕ → Type 0
IsWord d n = IsNumberWithin 0 4294967295 d n

pub record IsBusOf (d : Data) (b : BusValue) : Type 0 where
  pub keys : HasKeys bus_keys d
  pub name : At (codes "name") IsName d b.name
  pub binding : At (codes "binding") IsByte d b.binding
  pub media : At (codes "media") IsByte d b.media

-- a port on one of the buses with these names
pub record IsPortOf (buses : List (List ℕ)) (d : Data) (p : PortValue) : Type 0 where
  pub keys : HasKeys port_keys d
  pub bus : At (codes "bus") (IsIndexOfName buses) d p.bus
  pub address : At (codes "address") IsAddress d p.address

-- a row that leads to the first of the nodes that has the name at `next`
pub record IsRowOf (nodes : List (List ℕ)) (d : Data) (r : RowValue) : Type 0 where
  pub keys : HasKeys row_keys d
  pub first : At (codes "first") IsByte d r.first
  pub size : At (codes "size") IsByte d r.size
  pub port : At (codes "port") (IsNumberWithin 0 31) d r.port
  pub next : At (codes "next") (IsIndexOfName nodes) d r.next

pub record IsPoolOf (d : Data) (p : PoolValue) : Type 0 where
  pub keys : HasKeys pool_keys d
  pub first : At (codes "first") IsByte d p.first
  pub size : At (codes "size") IsByte d p.size

pub record IsRecordOf (d : Data) (r : RecordValue) : Type 0 where
  pub keys : HasKeys record_keys d
  pub handle : At (codes "handle") IsWord d r.handle
  pub next : At (codes "next") IsWord d r.next
  pub bytes : At (codes "bytes") IsHex d r.bytes

pub record IsTerminusOf (d : Data) (t : TerminusValue) : Type 0 where
  pub keys : HasKeys terminus_keys d
  pub tid : At (codes "tid") (IsNumberWithin 0 254) d t.tid
  pub records : At (codes "records") (IsShortListOf 4096 IsRecordOf) d t.records

abbrev pub IsKindOf : Data → Kind → Type 0
IsKindOf d Bridge = IsText (codes "bridge") d
IsKindOf d Endpoint = IsText (codes "endpoint") d

-- a node among buses and nodes with these names
pub record IsNodeOf (buses nodes : List (List ℕ)) (d : Data) (n : NodeValue) : Type 0 where
  pub keys : HasKeys node_keys d
  pub name : At (codes "name") IsName d n.name
  pub kind : At (codes "kind") IsKindOf d n.kind
  pub eid : At (codes "eid") IsByte d n.eid
  pub owner : At (codes "owner") (IsOptional (IsIndexOfName nodes)) d n.owner
  pub pool : At (codes "pool") (IsOptional IsPoolOf) d n.pool
  pub ports : At (codes "ports") (IsShortListOf 32 (IsPortOf buses)) d n.ports
  pub rows : At (codes "rows") (IsShortListOf 256 (IsRowOf nodes)) d n.rows
  pub terminus : At (codes "terminus") (IsOptional IsTerminusOf) d n.terminus

-- the number of the format
abbrev pub IsPlanFormat : Data → PlanFormat → Type 0
IsPlanFormat d One = IsNumber d 1
IsPlanFormat d Two = IsNumber d 2

-- the transmission unit: in format 1 the baseline of 64 bytes, in format 2 the number at its key
abbrev pub IsUnitOf : PlanFormat → Data → ℕ → Type 0
IsUnitOf One d unit = unit ≡ 64
IsUnitOf Two d unit = At (codes "unit") (IsNumberWithin 64 1024) d unit

-- a plan: no two buses have one name, and ports, rows and owners name its own buses and nodes
pub record IsPlanOf (d : Data) (p : PlanValue) : Type 0 where
  pub format : PlanFormat
  pub numbered : At (codes "format") IsPlanFormat d format
  pub keys : HasKeys (plan_keys format) d
  pub unit : IsUnitOf format d p.unit
  pub buses : At (codes "buses") (IsShortListOf 64 IsBusOf) d p.buses
  pub names : AllPairs (λ a b. a ≢ b) (bus_names p.buses)
  pub nodes : At (codes "nodes") (IsShortListOf 64 (IsNodeOf (bus_names p.buses) (node_names p.nodes))) d p.nodes
