-- The node to which a hop of a planned node leads, as the node itself is told of it.
use Rattle.std.specs.Prelude.{ℕ, List, Option, Some, None, option_map, unwrap_or, slice_get}
use Rattle.mctp_transport.specs.declared.device_kind.DeviceKind.{DeviceKind}
use Rattle.mctp_routing.specs.declared.row.Hop.{Hop}
use Rattle.mctp_bridge.specs.declared.routing_entries.Neighbor.{Neighbor}
use Rattle.plan_values.{specs.declared.plan.Plan.{Plan}, specs.declared.nodes.Bus.{Bus}}
use Rattle.net_tables.{specs.Names.{address_on, device_kind}, specs.Routing.{node_at, eid_of}, specs.Rows.{bus_of}}
use Rattle.mctp_transport.specs.declared.device_kind.DeviceKind.TheVariants as kind
use Rattle.plan_values.specs.declared.nodes.Kind.TheVariants as planned

-- a neighbor: whether it is a bridge, its EID, the identifiers of the bus, its physical address there
pub record NeighborValue : Type 0 where
  pub kind : DeviceKind
  pub eid : ℕ
  pub binding : ℕ
  pub media : ℕ
  pub address : List ℕ

abbrev pub neighbor_value : Neighbor → NeighborValue
neighbor_value n = record {
  kind = n.kind;
  eid = n.eid.value;
  binding = n.binding;
  media = n.media;
  address = n.address.now;
}

-- what a node of the plan is; beyond the plan an endpoint
abbrev pub kind_at : Plan → ℕ → DeviceKind
kind_at plan n = unwrap_or (option_map (λ node. device_kind node.kind) (node_at plan n)) kind.Endpoint

-- the binding and the media identifier of a bus, 0 where there is no such bus
abbrev pub numbers_at : Plan → ℕ → ℕ × ℕ
numbers_at plan bus = unwrap_or (option_map (λ (b : Bus). (b.binding, b.media)) (slice_get plan.buses.items bus)) (0, 0)

abbrev pub bus_numbers : Plan → Option ℕ → ℕ × ℕ
bus_numbers plan (Some bus) = numbers_at plan bus
bus_numbers plan None = (0, 0)

-- The node to which a hop of n leads, and the bus of the hop's port.
abbrev pub neighbor_of : Plan → ℕ → Hop → NeighborValue
neighbor_of plan n hop = record {
  kind = kind_at plan hop.next;
  eid = unwrap_or (eid_of plan hop.next) 0;
  binding = (bus_numbers plan (bus_of plan n hop.port)).0;
  media = (bus_numbers plan (bus_of plan n hop.port)).1;
  address = address_on plan hop.next (bus_of plan n hop.port);
}
