-- The packets that a message is sent in.
use Rattle.std.specs.Prelude.{◌≡◌, ℕ, List, slice_get, Some}
use Rattle.mctp_transport.{specs.PacketValues.{PacketValue, KeyValue}, specs.Cutting.{ArePacketsOf}}

-- the packet is one of those of the message, to the destination, under the key and with numbers from the start on
abbrev pub IsPacketOf : ℕ → List ℕ → ℕ → KeyValue → ℕ → PacketValue → Type 0
IsPacketOf unit message destination key start p =
    (ps : List PacketValue) × (i : ℕ) × ArePacketsOf unit message destination key start ps × (slice_get ps i ≡ Some p)
