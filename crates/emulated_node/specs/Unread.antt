-- Bytes that are no packet.
use Rattle.std.specs.Prelude.{ℕ, List}
use Rattle.mctp_transport.specs.declared.packet_error.PacketError.{PacketError}
use Rattle.mctp_transport.specs.Refusals as refusals
use Rattle.mctp_transport.specs.declared.packet_error.PacketError.TheVariants as packet

-- why bytes are no packet under a transmission unit: the first of the causes
abbrev pub IsNoPacketFor : ℕ → PacketError → List ℕ → Type 0
IsNoPacketFor unit packet.Short bytes = refusals.IsShort bytes
IsNoPacketFor unit packet.Empty bytes = ¬ refusals.IsShort bytes × refusals.IsEmpty bytes
IsNoPacketFor unit packet.Long bytes = refusals.IsLong unit bytes
IsNoPacketFor unit packet.Version bytes =
    ¬ refusals.IsShort bytes × ¬ refusals.IsEmpty bytes × ¬ refusals.IsLong unit bytes × refusals.HasOtherVersion bytes
