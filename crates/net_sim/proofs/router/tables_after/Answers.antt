use Rattle.std.{proofs.Common.{length}, proofs.lemmas.Result.{IfOk-weaker}}
use Rattle.net_tables.specs.Tables.{AreTabled}
use Rattle.net_sim.{specs.Routers.{AreTabledAfter}, proofs.Tabled.{are_rows_after, tabled_after}}
use Rattle.net_sim.proofs.router.tables_after.Goals as goal

pub routing_tables-requires : goal.routing_tables-requires
routing_tables-requires c =
    let rows = are_rows_after c.args.accepted.now.0.plan c.in-Some.after.now c.args.accepted.now.1 c.in-Some.ensures.accepted in
    record { apart = rows.0; in_range = rows.1 }

pub returns-in-Some : goal.returns-in-Some
returns-in-Some c =
    let tables = c.args.accepted.now.0 in
    let after = c.in-Some.after.now in
    IfOk-weaker c.routing_tables.result (λ made. AreTabled after (length after.nodes.items) made.items) (λ made. AreTabledAfter tables.plan tables.after made.items)
    (λ made are. tabled_after tables.plan after c.args.accepted.now.1 tables.after c.in-Some.ensures.plan c.in-Some.ensures.accepted made.items are)
    c.routing_tables.ensures
