-- What the packets that a network keeps stand for.
use Rattle.mctp_transport.{specs.PacketValues.{PacketValue}, specs.Packets.{packet_value}}
use Rattle.net_sim.{specs.Payloads.{payload_bytes}, specs.declared.kept_packet.KeptPacket.{KeptPacket}}

abbrev pub kept_frame : KeptPacket → PacketValue
kept_frame p = packet_value p.header (payload_bytes p.payload)
