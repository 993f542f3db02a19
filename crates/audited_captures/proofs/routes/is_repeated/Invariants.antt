use Rattle.std.proofs.Common.{◌≡◌, drop}
use Rattle.mctp_control.specs.RouteEntries.{entry_value}
use Rattle.audited_captures.{specs.Turns.{entry_values}, specs.Routes.{has_range}}
use Rattle.audited_captures.proofs.routes.is_repeated.Given as goal

abbrev pub invariant-loop-one : goal.invariant-loop-one
invariant-loop-one l = has_range (entry_values l.later) (entry_value l.entry) ≡ has_range (entry_values (drop l.one-index l.later)) (entry_value l.entry)
