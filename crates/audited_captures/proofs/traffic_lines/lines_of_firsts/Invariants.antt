use Rattle.std.proofs.Common.{List, map, take}
use Rattle.audited_captures.{specs.Counts.{AreCounts}, specs.Lines.{line_value}, specs.Packets.{NumberedPacket, numbered_packet}, specs.TrafficLines.{AreTrafficLines}}
use Rattle.audited_captures.proofs.traffic_lines.lines_of_firsts.Given as goal

abbrev pub invariant-loop-first : goal.invariant-loop-first
invariant-loop-first l = (packets : List NumberedPacket) → AreCounts packets l.firsts.counts.items
    → AreTrafficLines l.checked.0 l.bus packets (map numbered_packet (take l.first-index l.firsts.packets.items)) (map line_value l.lines.items)
