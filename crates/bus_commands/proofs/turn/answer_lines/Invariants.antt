use Rattle.std.{proofs.Common.{◌≡◌, map, string_bytes, take}, specs.List.{flat_map}}
use Rattle.bus_commands.specs.Turns.{answer_line}
use Rattle.bus_commands.proofs.turn.answer_lines.Given as goal

abbrev pub invariant-loop-packet : goal.invariant-loop-packet
invariant-loop-packet l = string_bytes l.lines ≡ flat_map (answer_line l.plan l.bus) (map (λ p. p.items) (take l.packet-index l.packets))
