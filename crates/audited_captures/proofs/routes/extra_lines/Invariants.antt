use Rattle.std.proofs.Common.{◌≡◌, ◌++◌, map, drop}
use Rattle.mctp_control.specs.RouteEntries.{entry_value}
use Rattle.audited_captures.{specs.Lines.{line_value}, specs.Turns.{entry_values}, specs.Routes.{extra_lines}}
use Rattle.audited_captures.proofs.routes.extra_lines.Given as goal

abbrev pub invariant-loop-i : goal.invariant-loop-i
invariant-loop-i l = extra_lines l.name (map entry_value l.planned) (entry_values l.found)
    ≡ map line_value l.lines.items ++ extra_lines l.name (map entry_value l.planned) (entry_values (drop l.i l.found))
