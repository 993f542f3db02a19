-- What becomes of a packet in a network of nodes that are emulated: where it goes, and all that is sent for it.
use Rattle.std.{specs.Prelude.{◌≡◌, ◌≢◌, ◌⊎◌, ℕ, ◌+◌, ◌<◌, ◌≤◌, ◌==◌, if◌then◌else◌, List, [], ◌∷◌, length, map, take, Some, slice_get, slice_index}, specs.List.{flat_map}}
use Rattle.mctp_transport.specs.PacketValues.{PacketValue, Spelled}
use Rattle.plan_values.specs.declared.plan.Plan.{Plan}
use Rattle.emulated_node.{specs.Nodes.{NodeState, Setting}, specs.ReceivedValues.{ReceivedValue, Sent, Held, Dropped}, specs.Receiving.{Receives}, specs.Unread.{IsNoPacketFor}, specs.Ways.{way_of}, specs.declared.way.Way.{Way}, specs.declared.handled.Handled.{Handled}, specs.declared.handled.SentPacket.{SentPacket}}
use Rattle.emulated_node.specs.declared.handled.Handled.TheVariants as handled

-- the plan, its nodes as they are emulated, and the one that isn't
pub record World : Type 0 where
  pub plan : Plan
  pub settings : List Setting
  pub outside : ℕ

-- what each node holds
abbrev pub States : Type 0
States = ℕ → NodeState

abbrev pub with_state : States → ℕ → NodeState → States
with_state s n next = λ m. if m == n then next else s m

-- a packet that was sent: where it goes, how often it was sent on, and its bytes
pub record SentValue : Type 0 where
  pub way : Way
  pub hops : ℕ
  pub bytes : List ℕ

abbrev pub sent_value : SentPacket → SentValue
sent_value p = record { way = p.way; hops = p.hops; bytes = p.bytes.items }

-- the packet goes over a bus of the plan to the node n, which is emulated
pub record GoesInside (w : World) (p : SentValue) (n : ℕ) (set : Setting) : Type 0 where
  pub next : p.way.next ≡ Some n
  pub inside : n ≢ w.outside
  pub there : slice_get w.settings n ≡ Some set
  pub bus : p.way.bus < length w.plan.buses.items

-- a packet that goes on to the same destination was sent on once more; an answer was not sent on yet
abbrev pub hops_of : (asked e hops : ℕ) → ℕ
hops_of asked e hops = if e == asked then hops + 1 else 0

-- What a node sends for a packet to `asked`: its second byte is its destination, and it goes along the row for that.
abbrev pub sent_on : Setting → SentValue → (asked : ℕ) → List ℕ → SentValue
sent_on set p asked bytes = record {
  way = way_of set.plan set.node set.rows p.way.bus asked (slice_index bytes 1);
  hops = hops_of asked (slice_index bytes 1) p.hops;
  bytes = bytes;
}

-- The packet reaches a node, which takes it in, and this becomes of it there.
pub record IsTakenIn (w : World) (s : States) (p : SentValue) (set : Setting) (frame : PacketValue)
    (received : ReceivedValue) (after : States) : Type 0 where
  pub node : ℕ
  pub next : NodeState
  pub goes : GoesInside w p node set
  pub few : p.hops ≤ 64
  pub spelled : Spelled w.plan.unit frame p.bytes
  pub receives : Receives set (s node) p.way.bus frame received next
  pub is : after ≡ with_state s node next

-- so it does, and the node sends nothing
abbrev pub IsTakenAlone : World → States → SentValue → ReceivedValue → List SentValue → States → Type 0
IsTakenAlone w s p received sent after = ((set : Setting) × (frame : PacketValue)
    × IsTakenIn w s p set frame received after) × (sent ≡ [])

-- no node takes the packet, so nothing is sent, and nothing changes
abbrev pub IsUntaken : States → List SentValue → States → Type 0
IsUntaken s sent after = (sent ≡ []) × (after ≡ s)

-- What becomes of a packet that was sent: it comes out where no emulated node is; it was sent on too often; its bytes
-- are no packet; or it reaches a node, which sends packets for it or not.
abbrev pub Becomes : World → States → SentValue → Handled → List SentValue → States → Type 0
Becomes w s p handled.Out sent after = ((n : ℕ) (set : Setting) → ¬ GoesInside w p n set) × IsUntaken s sent after
Becomes w s p handled.Worn sent after =
    ((n : ℕ) × (set : Setting) × GoesInside w p n set) × (64 < p.hops) × IsUntaken s sent after
Becomes w s p (handled.NoPacket why) sent after = ((n : ℕ) × (set : Setting) × GoesInside w p n set) × (p.hops ≤ 64)
    × IsNoPacketFor w.plan.unit why p.bytes × IsUntaken s sent after
Becomes w s p handled.Held sent after = IsTakenAlone w s p Held sent after
Becomes w s p (handled.Dropped why) sent after = IsTakenAlone w s p (Dropped why) sent after
Becomes w s p handled.Sent sent after = (set : Setting) × (frame : PacketValue) × (over : ℕ) × (packets : List (List ℕ))
    × IsTakenIn w s p set frame (Sent over packets) after × (sent ≡ map (sent_on set p frame.destination) packets)

-- a packet, what became of it, and what was sent for it
pub record StepValue : Type 0 where
  pub packet : SentValue
  pub handled : Handled
  pub sent : List SentValue

-- these became of packets, one after another: at first in this state of the nodes, and at last in that one
abbrev pub AreSteps : World → States → List StepValue → States → Type 0
AreSteps w s [] last = last ≡ s
AreSteps w s (t ∷ steps) last =
    (after : States) × Becomes w s t.packet t.handled t.sent after × AreSteps w after steps last

-- All that is sent for a packet, in this order: the packet, and then what is sent for each packet behind what was sent
-- before. They are taken in this order, to the last one, or as many as are taken at most.
pub record Spreads (w : World) (s : States) (put : SentValue) (packets : List SentValue) (steps : List StepValue)
    (last : States) : Type 0 where
  pub become : AreSteps w s steps last
  pub sent : packets ≡ put ∷ flat_map (λ t. t.sent) steps
  pub taken : map (λ t. t.packet) steps ≡ take (length steps) packets
  pub ends : (length steps ≡ length packets) ⊎ (length steps ≡ 4096)
