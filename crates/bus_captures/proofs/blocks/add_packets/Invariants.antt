use Rattle.std.proofs.Common.{◌+◌, ◌≤◌, length, map}
use Rattle.bus_captures.{specs.Values.{entry_value}, proofs.SectionLaws.{HasRead}}
use Rattle.bus_captures.proofs.blocks.add_packets.Given as goal

abbrev pub invariant-loop-left : goal.invariant-loop-left
invariant-loop-left l =
    HasRead l.bytes (map entry_value l.entries.items) l.left l.place l.section × (l.place + length l.left ≤ length l.bytes)

abbrev pub decreases-loop-left : goal.decreases-loop-left
decreases-loop-left l = length l.left
