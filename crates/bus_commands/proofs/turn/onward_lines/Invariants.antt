use Rattle.std.{proofs.Common.{◌≡◌, map, string_bytes, take}, specs.List.{flat_map}}
use Rattle.emulated_node.specs.Standing.{setting_of}
use Rattle.bus_commands.specs.Turns.{onward_line}
use Rattle.bus_commands.proofs.turn.onward_lines.Given as goal

abbrev pub invariant-loop-packet : goal.invariant-loop-packet
invariant-loop-packet g l = string_bytes l.lines
    ≡ flat_map (onward_line (setting_of l.emulated) l.arrival.bus l.arrival.asked.value) (map (λ p. p.items) (take l.packet-index l.packets))
