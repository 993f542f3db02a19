-- What a plan says, thing by thing, where buses and nodes stand by their names.
use Rattle.std.{specs.Prelude.{ℕ, suc, List, [], ◌∷◌, ◌++◌, Option, Some, None, map, option_map}, specs.List.{flat_map}}
use Rattle.plan_values.{specs.NodeValues.{name_bytes}, specs.declared.nodes.Bus.{Bus}, specs.declared.nodes.Kind.{Kind}, specs.declared.nodes.Node.{Node}, specs.declared.nodes.Pool.{Pool}, specs.declared.nodes.Port.{Port}, specs.declared.nodes.Row.{Row}, specs.declared.plan.Plan.{Plan}, specs.declared.terminus.PlannedRecord.{PlannedRecord}, specs.declared.terminus.PlannedTerminus.{PlannedTerminus}}
use Rattle.net_tables.specs.Names.{bus_name, node_name}
use Rattle.plan_differences.specs.declared.fact.Fact.{Fact}
use Rattle.plan_differences.specs.declared.fact.Fact.TheVariants as fact

-- a fact in plain lists and numbers
pub data FactValue : Type 0 where
  -- the transmission unit
  unit : ℕ → FactValue
  -- a bus: its name, its binding and its media
  bus : List ℕ → ℕ → ℕ → FactValue
  -- a node: its name, its kind, its endpoint ID, and the name of its owner, if any
  node : List ℕ → Kind → ℕ → Option (List ℕ) → FactValue
  -- the pool of a node: the node's name, the first endpoint ID, and how many from there on
  pool : List ℕ → ℕ → ℕ → FactValue
  -- a port of a node: the node's name, the port's index, the name of the bus, and the address
  port : List ℕ → ℕ → List ℕ → List ℕ → FactValue
  -- a row of a node: the node's name, the first endpoint ID, how many, the port, and the name of the next node
  row : List ℕ → ℕ → ℕ → ℕ → List ℕ → FactValue
  -- the terminus of a node: the node's name, and the terminus ID
  terminus : List ℕ → ℕ → FactValue
  -- a record of a node: the node's name, the handle, the next handle, and the bytes
  record_of : List ℕ → ℕ → ℕ → List ℕ → FactValue

abbrev pub fact_value : Fact → FactValue
fact_value (fact.Unit size) = unit size
fact_value (fact.Bus name binding media) = bus name.now binding media
fact_value (fact.Node name kind eid owner) = node name.now kind eid.value (option_map (λ o. o.now) owner)
fact_value (fact.Pool name p) = pool name.now p.first.value p.size
fact_value (fact.Port name index on address) = port name.now index on.now address.now
fact_value (fact.Row name first size through next) = row name.now first.value size through next.now
fact_value (fact.Terminus name tid) = terminus name.now tid
fact_value (fact.Record name handle next bytes) = record_of name.now handle next bytes.now

abbrev pub bus_fact : Bus → FactValue
bus_fact b = bus (name_bytes b.name) b.binding b.media

abbrev pub node_fact : Plan → Node → FactValue
node_fact plan n = node (name_bytes n.name) n.kind n.eid.value (option_map (node_name plan) n.owner)

-- none, or the one of the pool
abbrev pub pool_facts : List ℕ → Option Pool → List FactValue
pool_facts name None = []
pool_facts name (Some p) = pool name p.first.value p.size ∷ []

-- the port at the index of the node of the name
abbrev pub port_fact : Plan → List ℕ → ℕ → Port → FactValue
port_fact plan name index p = port name index (bus_name plan p.bus) p.address.items

-- one for each port, by indices from this number on
abbrev pub port_facts : Plan → List ℕ → ℕ → List Port → List FactValue
port_facts plan name index [] = []
port_facts plan name index (p ∷ ports) =
    port_fact plan name index p ∷ port_facts plan name (suc index) ports

abbrev pub row_fact : Plan → List ℕ → Row → FactValue
row_fact plan name r = row name r.first.value r.size r.port (node_name plan r.next)

abbrev pub record_fact : List ℕ → PlannedRecord → FactValue
record_fact name r = record_of name r.handle r.next r.bytes.items

-- none, or one of the terminus and one of each record
abbrev pub terminus_facts : List ℕ → Option PlannedTerminus → List FactValue
terminus_facts name None = []
terminus_facts name (Some t) = terminus name t.tid ∷ map (record_fact name) t.records.items

-- the node itself, its pool, its ports, its rows, and its terminus with the records
abbrev pub facts_of_node : Plan → Node → List FactValue
facts_of_node plan n =
    node_fact plan n
    ∷ (pool_facts (name_bytes n.name) n.pool ++ (port_facts plan (name_bytes n.name) 0 n.ports.items
    ++ (map (row_fact plan (name_bytes n.name)) n.rows.items ++ terminus_facts (name_bytes n.name) n.terminus)))

-- the transmission unit, the buses, and the nodes with what they have, each list in the plan's order
abbrev pub plan_facts : Plan → List FactValue
plan_facts plan =
    unit plan.unit ∷ (map bus_fact plan.buses.items ++ flat_map (facts_of_node plan) plan.nodes.items)
