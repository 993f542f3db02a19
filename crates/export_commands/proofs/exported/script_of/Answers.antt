use Rattle.std.proofs.Common.{sym, subst}
use Rattle.plan_values.specs.declared.plan.Plan.{Plan}
use Rattle.net_tables.{specs.Routing.{rows_of}, specs.Tables.{AreRows}}
use Rattle.export_commands.proofs.Lawful.{are_rows}
use Rattle.export_commands.proofs.exported.script_of.Goals as goal

pub linux_script-requires : goal.linux_script-requires
linux_script-requires c =
    subst (λ (p : Plan). AreRows (rows_of p c.args.node)) (sym c.plan.ensures.plan) (are_rows c.args.checked.now.0 c.args.checked.now.1 c.args.node c.plan.ensures.accepted)
