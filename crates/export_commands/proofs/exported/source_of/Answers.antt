use Rattle.std.proofs.Common.{sym, subst}
use Rattle.plan_values.specs.declared.plan.Plan.{Plan}
use Rattle.net_tables.{specs.Routing.{rows_of}, specs.Tables.{AreRows}}
use Rattle.export_commands.proofs.Lawful.{are_rows}
use Rattle.export_commands.proofs.exported.source_of.Goals as goal

pub c_source-requires : goal.c_source-requires
c_source-requires c =
    subst (λ (p : Plan). AreRows (rows_of p c.args.node)) (sym c.plan-plan.ensures.plan) (are_rows c.args.checked.now.0 c.args.checked.now.1 c.args.node c.plan-plan.ensures.accepted)
