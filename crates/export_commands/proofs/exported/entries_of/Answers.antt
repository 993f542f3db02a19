use Rattle.std.proofs.Common.{rules, ◌≡◌, Some, sym, subst}
use Rattle.plan_values.specs.declared.plan.Plan.{Plan}
use Rattle.net_tables.specs.Routing.{eid_of}
use Rattle.plan_exports.specs.PlannedTables.{HasLawfulRows}
use Rattle.export_commands.proofs.Lawful.{have_lawful_rows, is_assignable}
use Rattle.export_commands.proofs.exported.entries_of.Goals as goal

pub entry_lines-requires-clause-rows : goal.entry_lines-requires-clause-rows
entry_lines-requires-clause-rows c =
    subst (λ (p : Plan). HasLawfulRows p c.args.node) (sym c.plan-plan.ensures.plan) (have_lawful_rows c.args.checked.now.0 c.args.checked.now.1 c.args.node c.plan-plan.ensures.accepted)

pub entry_lines-requires-clause-eid : goal.entry_lines-requires-clause-eid
entry_lines-requires-clause-eid c =
    let held : eid_of c.args.checked.now.0 c.args.node ≡ Some c.in-Some.eid.value = search rules in
    is_assignable c.args.checked.now.0 c.args.checked.now.1 c.args.node c.in-Some.eid.value c.plan-plan.ensures.accepted held
