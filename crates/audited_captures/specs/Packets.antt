-- The packets of a capture, and how many went from each endpoint ID to each.
use Rattle.std.{specs.Prelude.{◌≡◌, ◌≢◌, ℕ, ◌+◌, ◌==◌, ◌&&◌, Bool, List, [], ◌∷◌, ◌++◌, length}, specs.List.{filter}}
use Rattle.bus_captures.specs.Values.{EntryValue}
use Rattle.mctp_transport.specs.PacketValues.{PacketValue, Spelled}
use Rattle.audited_captures.specs.declared.packets.CapturedPacket.{CapturedPacket}
use Rattle.bus_captures.specs.declared.capture.Kind.TheVariants as kind

-- a packet's number among the entries of the capture, and the endpoint IDs in its header
pub record NumberedPacket : Type 0 where
  pub number : ℕ
  pub source : ℕ
  pub destination : ℕ

abbrev pub numbered_packet : CapturedPacket → NumberedPacket
numbered_packet p = record { number = p.number; source = p.source.value; destination = p.destination.value }

abbrev pub numbered : ℕ → PacketValue → NumberedPacket
numbered number f = record { number = number; source = f.source; destination = f.destination }

-- the entry is this packet, within the transmission unit
abbrev pub IsPacket : (unit : ℕ) → EntryValue → PacketValue → Type 0
IsPacket unit e f = (e.kind ≡ kind.Packet) × Spelled unit f e.bytes

abbrev pub IsNoPacket : (unit : ℕ) → EntryValue → Type 0
IsNoPacket unit e = (f : PacketValue) → ¬ IsPacket unit e f

-- these are the packets among the entries, which are numbered from 1
pub data ArePackets (unit : ℕ) : List EntryValue → List NumberedPacket → Type 0 where
  None : ArePackets unit [] []
  Other : (entries : List EntryValue) (ps : List NumberedPacket) (e : EntryValue) → ArePackets unit entries ps
      → IsNoPacket unit e → ArePackets unit (entries ++ e ∷ []) ps
  More : (entries : List EntryValue) (ps : List NumberedPacket) (e : EntryValue) (f : PacketValue)
      → ArePackets unit entries ps → IsPacket unit e f
      → ArePackets unit (entries ++ e ∷ []) (ps ++ numbered (length entries + 1) f ∷ [])

-- the packet went from the one endpoint ID to the other
abbrev pub is_between : (source destination : ℕ) → NumberedPacket → Bool
is_between source destination p = p.source == source && p.destination == destination

-- how many packets did
abbrev pub count_between : (source destination : ℕ) → List NumberedPacket → ℕ
count_between source destination ps = length (filter (is_between source destination) ps)

-- how many went the way of this one
abbrev pub count_like : NumberedPacket → List NumberedPacket → ℕ
count_like p ps = count_between p.source p.destination ps

-- these are the first packets from an endpoint ID to another, in their order
pub data AreFirst : List NumberedPacket → List NumberedPacket → Type 0 where
  None : AreFirst [] []
  Further : (ps firsts : List NumberedPacket) (p : NumberedPacket) → AreFirst ps firsts → count_like p ps ≢ 0
      → AreFirst (ps ++ p ∷ []) firsts
  More : (ps firsts : List NumberedPacket) (p : NumberedPacket) → AreFirst ps firsts → count_like p ps ≡ 0
      → AreFirst (ps ++ p ∷ []) (firsts ++ p ∷ [])
