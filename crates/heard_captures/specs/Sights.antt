-- What became of an entry, wherever its bytes lie.
use Rattle.mctp_transport.{specs.Packets.{packet_value_of}, specs.Heard.{heard_answer}}
use Rattle.heard_captures.{specs.Seen.{Seen, Fed, NoPacket, Told, Other, NotRead}, specs.declared.seeing.Sight.{Sight}}
use Rattle.heard_captures.specs.declared.seeing.Sight.TheVariants as sight

abbrev pub seen_of : Sight → Seen
seen_of (sight.Fed interface packet heard) = Fed interface (packet_value_of packet) (heard_answer heard)
seen_of (sight.NoPacket why) = NoPacket why
seen_of (sight.Told way message) = Told way message.now
seen_of (sight.Other protocol) = Other protocol
seen_of (sight.NotRead why) = NotRead why
