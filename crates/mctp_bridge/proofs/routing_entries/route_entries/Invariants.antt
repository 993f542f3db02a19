use Rattle.std.{proofs.Common.{◌≡◌, take, map}, specs.List.{flat_map, zip}}
use Rattle.mctp_control.specs.RouteEntries.{entry_value}
use Rattle.mctp_bridge.specs.Entries.{row_entries}
use Rattle.mctp_bridge.proofs.routing_entries.route_entries.Given as goal

abbrev pub invariant-loop-index : goal.invariant-loop-index
invariant-loop-index l = map entry_value l.entries.items ≡ flat_map (λ p. row_entries p.0 p.1) (take l.index (zip l.row-items l.neighbors))
