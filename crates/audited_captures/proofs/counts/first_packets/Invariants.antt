use Rattle.std.proofs.Common.{map, take}
use Rattle.audited_captures.{specs.Counts.{AreCounts}, specs.Packets.{numbered_packet, AreFirst}}
use Rattle.audited_captures.proofs.counts.first_packets.Given as goal

abbrev pub invariant-loop-packet : goal.invariant-loop-packet
invariant-loop-packet l = record {
  first : AreFirst (map numbered_packet (take l.packet-index l.packets)) (map numbered_packet l.firsts.items);
  counts : AreCounts (map numbered_packet (take l.packet-index l.packets)) l.counts.items;
}
