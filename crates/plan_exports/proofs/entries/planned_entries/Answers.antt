use Rattle.std.{proofs.Common.{rules, List, sym, subst}, specs.Prelude.{All, length, ◌≤◌}}
use Rattle.mctp_bridge.specs.declared.routing_entries.Neighbor.{Neighbor}
use Rattle.plan_exports.proofs.EntryTables.{short_neighbors, short_entries, row_ports}
use Rattle.plan_exports.proofs.entries.planned_entries.Goals as goal

pub route_entries-requires-clause-addresses : goal.route_entries-requires-clause-addresses
route_entries-requires-clause-addresses c =
    subst (λ (ns : List Neighbor). All (λ (next : Neighbor). length next.address.now ≤ 8) ns) (sym c.deref.ensures.value)
    (short_neighbors _ _ _ _ c.in_ok-planned.ensures)

pub route_entries-requires-clause-ports : goal.route_entries-requires-clause-ports
route_entries-requires-clause-ports c = row_ports _ _ _ _ c.requires c.in_ok-planned.ensures

pub returns-clause-short : goal.returns-clause-short
returns-clause-short c =
    let short = short_entries _ _ _ _ c.in_ok-planned.ensures in
    search (rules, short)
