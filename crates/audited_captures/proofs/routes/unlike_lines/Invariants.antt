use Rattle.std.{proofs.Common.{◌≡◌, map, take}, specs.List.{flat_map}}
use Rattle.mctp_control.specs.RouteEntries.{entry_value}
use Rattle.audited_captures.{specs.Lines.{line_value}, specs.Turns.{entry_values}, specs.Routes.{planned_lines}}
use Rattle.audited_captures.proofs.routes.unlike_lines.Given as goal

abbrev pub invariant-loop-entry : goal.invariant-loop-entry
invariant-loop-entry l = map line_value l.lines.items ≡ flat_map (planned_lines l.name (entry_values l.found)) (map entry_value (take l.entry-index l.planned))
