use Rattle.std.proofs.Common.{List, subst, sym, ◌∙◌}
use Rattle.net_tables.proofs.TableLaws.{lawful_rows, no_fault}
use Rattle.mctp_routing.specs.declared.row.TableRow as bridge
use Rattle.mctp_routing.specs.Rows as rule
use Rattle.net_tables.proofs.node_tables.routing_table.Goals as goal

pub returns-in-Ok-clause-routes : goal.returns-in-Ok-clause-routes
returns-in-Ok-clause-routes c =
    let P : List bridge.TableRow → Type 0 = λ copied. rule.HasSameRoutes copied c.in-Ok.table in
    subst P (c.deref.ensures.value ∙ c.in_ok-rows.ensures) c.in-Ok.ensures.routes

pub unreachable-requires : goal.unreachable-requires
unreachable-requires c =
    let rows = c.args.rows.now in
    let P : List bridge.TableRow → Type 0 = rule.AreLawful in
    let lawful : rule.AreLawful c.deref.result.now = subst P (sym (c.deref.ensures.value ∙ c.in_ok-rows.ensures)) (lawful_rows rows c.requires) in
    c.in_default.not-Memory (no_fault c.deref.result.now c.in-Err.fault lawful c.in-Err.ensures.fault)
