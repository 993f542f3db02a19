use Rattle.std.proofs.Common.{◌≡◌, map, drop}
use Rattle.mctp_control.specs.RouteEntries.{entry_value}
use Rattle.audited_captures.specs.Routes.{has_range}
use Rattle.audited_captures.proofs.routes.is_planned.Given as goal

abbrev pub invariant-loop-one : goal.invariant-loop-one
invariant-loop-one l = has_range (map entry_value l.planned) (entry_value l.entry) ≡ has_range (map entry_value (drop l.one-index l.planned)) (entry_value l.entry)
