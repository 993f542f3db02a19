-- What becomes of the entries of a capture.
use Rattle.std.specs.Prelude.{◌≡◌, ℕ, ◌==◌, ◌&&◌, List, [], ◌∷◌, ◌++◌, Option, if◌then◌else◌}
use Rattle.bus_captures.{specs.Values.{EntryValue}, specs.declared.capture.Direction.{Direction}, specs.declared.capture.Interface.{Interface}, specs.declared.capture.Unread.{Unread}}
use Rattle.heard_captures.specs.Places.{is_same}
use Rattle.mctp_transport.{specs.declared.packet_error.PacketError.{PacketError}, specs.PacketValues.{PacketValue, Spelled}, specs.Hearing.{Answer, HearsOnly}, specs.Histories.{History, Arrived}}
use Rattle.bus_captures.specs.declared.capture.Kind.TheVariants as kind
use Rattle.mctp_transport.specs.declared.packet_error.PacketError.TheVariants as packet
use Rattle.mctp_transport.specs.Refusals as refusals

-- what became of an entry: a packet on an interface and what its assembler made of it, bytes that are no packet and
-- why, a message, something of another protocol, or something that isn't read and why
pub data Seen : Type 0 where
  Fed : Interface → PacketValue → Answer → Seen
  NoPacket : PacketError → Seen
  Told : Option Direction → List ℕ → Seen
  Other : ℕ → Seen
  NotRead : Unread → Seen

-- the packets to a destination on an interface among what was seen
abbrev pub history_to : Interface → ℕ → List Seen → History
history_to i d [] = []
history_to i d (Fed j p answer ∷ seen) =
    if is_same j i && (p.destination == d) then Arrived p ∷ history_to i d seen else history_to i d seen
history_to i d (NoPacket why ∷ seen) = history_to i d seen
history_to i d (Told way message ∷ seen) = history_to i d seen
history_to i d (Other protocol ∷ seen) = history_to i d seen
history_to i d (NotRead why ∷ seen) = history_to i d seen

-- why bytes are no packet under a transmission unit: the first of the causes
abbrev pub IsNoPacketFor : (unit : ℕ) → PacketError → List ℕ → Type 0
IsNoPacketFor unit packet.Short bytes = refusals.IsShort bytes
IsNoPacketFor unit packet.Empty bytes = ¬ refusals.IsShort bytes × refusals.IsEmpty bytes
IsNoPacketFor unit packet.Long bytes = refusals.IsLong unit bytes
IsNoPacketFor unit packet.Version bytes =
    ¬ refusals.IsShort bytes × ¬ refusals.IsEmpty bytes × ¬ refusals.IsLong unit bytes × refusals.HasOtherVersion bytes

-- This became of the entry under a transmission unit where that was seen before: its packet was given to the assembler
-- of its interface and destination, which had been given the earlier packets to that destination on that interface and
-- nothing else.
abbrev pub IsSeen : (unit : ℕ) → List Seen → EntryValue → Seen → Type 0
IsSeen unit before e (Fed i p answer) =
    (e.kind ≡ kind.Packet) × (i ≡ e.interface) × Spelled unit p e.bytes
    × HearsOnly 16 4096 (history_to i p.destination before) p answer
IsSeen unit before e (NoPacket why) = (e.kind ≡ kind.Packet) × IsNoPacketFor unit why e.bytes
IsSeen unit before e (Told way message) = (e.kind ≡ kind.Message) × (way ≡ e.direction) × (message ≡ e.bytes)
IsSeen unit before e (Other protocol) = e.kind ≡ kind.Other protocol
IsSeen unit before e (NotRead why) = e.kind ≡ kind.Unread why

-- these became of the entries, one after the other
pub data AreSeen (unit : ℕ) : List EntryValue → List Seen → Type 0 where
  None : AreSeen unit [] []
  More : (entries : List EntryValue) (seen : List Seen) (e : EntryValue) (s : Seen)
      → AreSeen unit entries seen → IsSeen unit seen e s → AreSeen unit (entries ++ e ∷ []) (seen ++ s ∷ [])
