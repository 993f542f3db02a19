use Rattle.std.{proofs.Common.{◌≡◌, drop}, specs.Prelude.{find}}
use Rattle.mctp_control.specs.RouteEntries.{entry_value}
use Rattle.audited_captures.{specs.Turns.{entry_values}, specs.Routes.{same_range}}
use Rattle.audited_captures.proofs.routes.find_range.Given as goal

abbrev pub invariant-loop-entry : goal.invariant-loop-entry
invariant-loop-entry l =
    find (same_range (entry_value l.planned)) (entry_values l.found) ≡ find (same_range (entry_value l.planned)) (entry_values (drop l.entry-index l.found))
