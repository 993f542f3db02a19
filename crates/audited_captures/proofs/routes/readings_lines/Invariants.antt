use Rattle.std.proofs.Common.{◌≡◌, ◌++◌, map, drop}
use Rattle.mctp_control.specs.RouteEntries.{entry_value}
use Rattle.audited_captures.{specs.Lines.{line_value}, specs.Readings.{part_value, readings}, specs.Routes.{readings_lines}}
use Rattle.audited_captures.proofs.routes.readings_lines.Given as goal

abbrev pub invariant-loop-i : goal.invariant-loop-i
invariant-loop-i l = readings_lines l.name (map entry_value l.planned) (readings (map part_value l.parts))
    ≡ map line_value l.lines.items ++ readings_lines l.name (map entry_value l.planned) (readings (map part_value (drop l.i l.parts)))
