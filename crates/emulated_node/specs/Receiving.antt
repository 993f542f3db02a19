-- What a node does with a packet that comes over a bus.
use Rattle.std.specs.Prelude.{◌≡◌, ◌⊎◌, ℕ, false, List, [], ◌∷◌, Option, None, Some}
use Rattle.mctp_routing.{specs.declared.decision.Decision.{Decision}, specs.declared.row.Hop.{Hop}, specs.Decisions.{IsDecided}}
use Rattle.mctp_control.specs.Devices.{DeviceValue, present_eid}
use Rattle.mctp_transport.{specs.PacketValues.{PacketValue, packet_value_bytes, key_of}, specs.Hearing.{Answer, Hears}}
use Rattle.net_tables.specs.Rows.{bus_of}
use Rattle.emulated_node.{specs.Heard.{with_arrival}, specs.Nodes.{NodeState, Setting, TerminusValue}, specs.ReceivedValues.{ReceivedValue, Sent, Held, Dropped}, specs.Replying.{RepliesTo}}
use Rattle.mctp_routing.specs.declared.decision.Decision.TheVariants as decision
use Rattle.mctp_transport.specs.Hearing as heard
use Rattle.emulated_node.specs.declared.received.Reason.TheVariants as reason

-- what the node decides by its rows, holding the endpoint ID that its device holds, 0 for none, on a packet
-- that came over a bus
abbrev pub DecidesOn : Setting → NodeState → PacketValue → Decision → Type 0
DecidesOn set s p decided =
    IsDecided (present_eid s.device.eid) set.kind set.rows false p.destination decided

-- a packet for the endpoint ID 0 is for the node that it reaches (DSP0236, null endpoint ID)
abbrev pub IsForNode : Setting → NodeState → PacketValue → Type 0
IsForNode set s p = (p.destination ≡ 0) ⊎ DecidesOn set s p decision.Here

-- the packet is for another node, and this is decided on it
abbrev pub IsForOther : Setting → NodeState → PacketValue → Decision → Type 0
IsForOther set s p decided = (¬ (p.destination ≡ 0)) × DecidesOn set s p decided

-- the packet is given to the assembler of the bus: 16 slots for messages of at most 4096 bytes
abbrev pub with_packet : NodeState → ℕ → PacketValue → NodeState
with_packet s bus p = record s { history = with_arrival s.history bus p }

-- The packet is for the node, and this is heard of it.
abbrev pub HearsOf : Setting → NodeState → ℕ → PacketValue → Answer → Type 0
HearsOf set s bus p answer = IsForNode set s p × Hears 16 4096 (s.history bus) p answer

-- A message comes whole with the packet, and this becomes of it.
pub record ComesWhole (set : Setting) (s : NodeState) (bus : ℕ) (p : PacketValue) (received : ReceivedValue)
    (new : NodeState) : Type 0 where
  pub message : List ℕ
  pub device : DeviceValue
  pub terminus : Option TerminusValue
  pub hears : HearsOf set s bus p (heard.Whole message)
  pub replies : RepliesTo set.plan.unit s.device s.terminus bus set.entries (key_of p) message received device terminus
  pub is : new ≡ record (with_packet s bus p) { device = device; terminus = terminus }

-- The packet goes on along the hop as it is, over the bus of its port, if the node has the port.
abbrev pub IsSentOn : Setting → Hop → PacketValue → ReceivedValue → Type 0
IsSentOn set hop p (Sent over packets) =
    (bus_of set.plan set.node hop.port ≡ Some over) × (packets ≡ packet_value_bytes p ∷ [])
IsSentOn set hop p (Dropped reason.NoPort) = bus_of set.plan set.node hop.port ≡ None
IsSentOn set hop p _ = ⊥

-- The packet is for another node, and it is decided that it goes on along a hop.
abbrev pub IsForwarded : Setting → NodeState → PacketValue → ReceivedValue → NodeState → Type 0
IsForwarded set s p received new =
    (hop : Hop) × IsForOther set s p (decision.Forward hop) × IsSentOn set hop p received × (new ≡ s)

-- What becomes of a packet that comes over the bus, and what the node holds then. An answer goes back over that bus.
abbrev pub Receives : Setting → NodeState → (bus : ℕ) → PacketValue → ReceivedValue → NodeState → Type 0
Receives set s bus p (Sent over packets) new =
    ComesWhole set s bus p (Sent over packets) new ⊎ IsForwarded set s p (Sent over packets) new
Receives set s bus p Held new = HearsOf set s bus p heard.Held × (new ≡ with_packet s bus p)
Receives set s bus p (Dropped (reason.ForwardFault why)) new = IsForOther set s p (decision.Drop why) × (new ≡ s)
Receives set s bus p (Dropped reason.NoPort) new = IsForwarded set s p (Dropped reason.NoPort) new
Receives set s bus p (Dropped (reason.Unassembled why)) new =
    HearsOf set s bus p (heard.Dropped why) × (new ≡ with_packet s bus p)
Receives set s bus p (Dropped reason.NoRequest) new = ComesWhole set s bus p (Dropped reason.NoRequest) new
Receives set s bus p (Dropped reason.NoAnswer) new = ComesWhole set s bus p (Dropped reason.NoAnswer) new
