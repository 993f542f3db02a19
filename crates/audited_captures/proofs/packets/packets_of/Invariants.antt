use Rattle.std.proofs.Common.{map, take}
use Rattle.bus_captures.specs.Values.{entry_value}
use Rattle.audited_captures.specs.Packets.{numbered_packet, ArePackets}
use Rattle.audited_captures.proofs.packets.packets_of.Given as goal

abbrev pub invariant-loop-i : goal.invariant-loop-i
invariant-loop-i l = ArePackets l.unit (map entry_value (take l.i l.capture.entries.items)) (map numbered_packet l.packets.items)
