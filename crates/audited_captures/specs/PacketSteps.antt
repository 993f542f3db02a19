-- What one entry adds to the packets before it.
use Rattle.std.specs.Prelude.{◌≡◌, ◌⊎◌, ℕ, List, [], ◌∷◌, ◌++◌}
use Rattle.bus_captures.specs.Values.{EntryValue}
use Rattle.mctp_transport.specs.PacketValues.{PacketValue}
use Rattle.audited_captures.specs.Packets.{NumberedPacket, numbered, IsPacket, IsNoPacket}

-- an entry of this number was added, if it is a packet
abbrev pub AddsPacket : (unit number : ℕ) → EntryValue → List NumberedPacket → List NumberedPacket → Type 0
AddsPacket unit number e old new =
    (IsNoPacket unit e × (new ≡ old)) ⊎ ((f : PacketValue) × IsPacket unit e f × (new ≡ old ++ numbered number f ∷ []))
