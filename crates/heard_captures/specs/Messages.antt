-- The messages of a capture that came whole.
use Rattle.std.{specs.Prelude.{ℕ, Bool, List, [], ◌∷◌}, specs.List.{flat_map}}
use Rattle.bus_captures.specs.declared.capture.Interface.{Interface}
use Rattle.mctp_transport.{specs.PacketValues.{PacketValue}, specs.Hearing.{Answer, Whole, Held, Dropped}}
use Rattle.heard_captures.{specs.Seen.{Seen, Fed, NoPacket, Told, Other, NotRead}, specs.declared.messages.Message.{Message}}

-- the endpoint IDs from which and to which a message went, its tag and whether the sender owns it, and its bytes
pub record MessageValue : Type 0 where
  pub source : ℕ
  pub destination : ℕ
  pub owner : Bool
  pub tag : ℕ
  pub bytes : List ℕ

abbrev pub message_value : Message → MessageValue
message_value m = record {
  source = m.source.value;
  destination = m.destination.value;
  owner = m.owner;
  tag = m.tag.value;
  bytes = m.bytes.items;
}

-- a message that came whole, and the interface on which it did
pub record Came : Type 0 where
  pub on : Interface
  pub message : MessageValue

-- the message of these bytes that a packet ended; its header is that of its last packet
abbrev pub ended_by : PacketValue → List ℕ → MessageValue
ended_by p bytes =
    record { source = p.source; destination = p.destination; owner = p.owner; tag = p.tag; bytes = bytes }

-- the message that a packet ended, if it ended one
abbrev pub came_of : Interface → PacketValue → Answer → List Came
came_of i p (Whole bytes) = record { on = i; message = ended_by p bytes } ∷ []
came_of i p Held = []
came_of i p (Dropped cause) = []

-- A message that was captured by itself has no endpoint IDs, so it isn't among those that came in packets.
abbrev pub messages_of : Seen → List Came
messages_of (Fed i p answer) = came_of i p answer
messages_of (NoPacket why) = []
messages_of (Told way message) = []
messages_of (Other protocol) = []
messages_of (NotRead why) = []

-- the messages that came whole, in the order of the packets that ended them
abbrev pub messages_in : List Seen → List Came
messages_in seen = flat_map messages_of seen
