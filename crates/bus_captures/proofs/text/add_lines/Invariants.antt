use Rattle.std.proofs.Common.{◌≤◌, ◌+◌, length, map}
use Rattle.bus_captures.{specs.Captures.{lines_of}, specs.Values.{entry_value}, proofs.LineLaws.{HasRead}}
use Rattle.bus_captures.proofs.text.add_lines.Given as goal

abbrev pub invariant-lines : goal.invariant-lines
invariant-lines l =
    HasRead l.text (map entry_value l.entries.items) l.place (lines_of l.left) × (l.place + length l.left ≤ length l.text)

abbrev pub decreases-lines : goal.decreases-lines
decreases-lines l = length l.left
