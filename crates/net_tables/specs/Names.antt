-- The names of a plan's nodes and buses, the words of kinds, and the addresses of ports.
use Rattle.std.specs.Prelude.{◌≡◌, ◌≢◌, ◌<◌, ℕ, ◌==◌, List, [], Option, Some, None, codes, find, option_map, slice_get, string_bytes, unwrap_or}
use Rattle.mctp_transport.specs.declared.device_kind.DeviceKind.{DeviceKind}
use Rattle.plan_values.{specs.declared.plan.Plan.{Plan}, specs.declared.nodes.Kind.{Kind}, specs.declared.nodes.Kind.TheVariants.{Bridge, Endpoint}, specs.declared.nodes.Port.{Port}}
use Rattle.net_tables.specs.Routing.{node_at, ports_of}
use Rattle.mctp_transport.specs.declared.device_kind.DeviceKind.TheVariants as device

-- a node's name; none beyond the plan
abbrev pub name_of_node : Plan → ℕ → Option (List ℕ)
name_of_node plan n = option_map (λ node. string_bytes node.name.text) (slice_get plan.nodes.items n)

-- a bus's name; none beyond the plan
abbrev pub name_of_bus : Plan → ℕ → Option (List ℕ)
name_of_bus plan b = option_map (λ bus. string_bytes bus.name.text) (slice_get plan.buses.items b)

-- b is the first bus of the name
pub record IsFirstBus (plan : Plan) (name : List ℕ) (b : ℕ) : Type 0 where
  pub named : name_of_bus plan b ≡ Some name
  pub first : (earlier : ℕ) → earlier < b → name_of_bus plan earlier ≢ Some name

-- no bus has the name
abbrev pub IsNoBus : Plan → List ℕ → Type 0
IsNoBus plan name = (b : ℕ) → name_of_bus plan b ≢ Some name

-- the name of a node; a dash beyond the plan
abbrev pub node_name : Plan → ℕ → List ℕ
node_name plan n = unwrap_or (option_map (λ node. string_bytes node.name.text) (node_at plan n)) (codes "-")

-- the name of a bus; a dash beyond the plan
abbrev pub bus_name : Plan → ℕ → List ℕ
bus_name plan b = unwrap_or (name_of_bus plan b) (codes "-")

abbrev pub kind_word : Kind → List ℕ
kind_word Bridge = codes "bridge"
kind_word Endpoint = codes "endpoint"

abbrev pub device_kind : Kind → DeviceKind
device_kind Bridge = device.Bridge
device_kind Endpoint = device.Endpoint

-- the address of the first of these ports that is on the bus; empty where none is
abbrev pub first_address : List Port → ℕ → List ℕ
first_address ports bus =
    unwrap_or (option_map (λ (port : Port). port.address.items) (find (λ (port : Port). port.bus == bus) ports)) []

-- the address of a node's first port on a bus; empty where it has none there
abbrev pub address_on : Plan → ℕ → Option ℕ → List ℕ
address_on plan node (Some bus) = first_address (ports_of plan node) bus
address_on plan node None = []
