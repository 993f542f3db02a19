use Rattle.std.{proofs.Common.{◌≡◌, ◌<◌, length, Some, sym, subst, refl}, proofs.lemmas.Option.{slice_get_read}}
use Rattle.command_answers.proofs.Places.{checked_orders}
use Rattle.plan_values.specs.declared.plan.Plan.{Plan}
use Rattle.net_tables.{specs.Routing.{node_at, rows_of}, specs.Tables.{AreRows}}
use Rattle.plan_exports.specs.PlannedTables.{HasLawfulRows}
use Rattle.bus_commands.proofs.Starting.{are_rows, have_lawful_rows, holds_lawfully, planned_so, started}
use Rattle.bus_commands.proofs.start.start.Goals as goal

pub range_table-requires : goal.range_table-requires
range_table-requires c =
    subst (λ (p : Plan). AreRows (rows_of p c.args.node)) (sym c.plan-plan.ensures.plan) (are_rows c.args.checked.now.0 c.args.checked.now.1 c.args.node c.plan-plan.ensures.accepted)

pub planned_entries-requires : goal.planned_entries-requires
planned_entries-requires c =
    subst (λ (p : Plan). HasLawfulRows p c.args.node) (sym c.plan-plan.ensures.plan) (have_lawful_rows c.args.checked.now.0 c.args.checked.now.1 c.args.node c.plan-plan.ensures.accepted)

pub planned_terminus-requires : goal.planned_terminus-requires
planned_terminus-requires c =
    checked_orders c.args.checked.now.0 c.plan-plan.result.now c.args.checked.now.1 c.certificate.result.now c.plan-plan.ensures.accepted c.plan-plan.ensures.plan c.certificate.ensures.certificate

pub device_at_start-device-requires : goal.device_at_start-device-requires
device_at_start-device-requires c =
    let within = subst (λ (p : Plan). c.args.node < length p.nodes.items) (sym c.plan-plan.ensures.plan) c.requires in
    let there : node_at c.plan-plan.result.now c.args.node ≡ Some c.index-planned.result.now =
    slice_get_read c.plan-plan.result.now.nodes.items _ c.args.node c.index-planned.result.now refl within c.index-planned.ensures in
    let at : node_at c.args.checked.now.0 c.args.node ≡ Some c.index-planned.result.now =
    subst (λ (p : Plan). node_at p c.args.node ≡ Some c.index-planned.result.now) c.plan-plan.ensures.plan there in
    holds_lawfully c.args.checked.now.0 c.args.checked.now.1 c.args.node c.index-planned.result.now c.plan-plan.ensures.accepted at

pub returns : goal.returns
returns c =
    let within = subst (λ (p : Plan). c.args.node < length p.nodes.items) (sym c.plan-plan.ensures.plan) c.requires in
    let there : node_at c.plan-plan.result.now c.args.node ≡ Some c.index-planned.result.now =
    slice_get_read c.plan-plan.result.now.nodes.items _ c.args.node c.index-planned.result.now refl within c.index-planned.ensures in
    started c.args.is_configured c.args.checked.now.0 c.plan-plan.result.now c.args.checked.now.1 c.certificate.result.now c.args.node c.index-planned.result.now _ _ _ _ _ c.new.result
    c.plan-plan.ensures.plan c.certificate.ensures.certificate there c.device_kind-kind.ensures c.in_ok-table.ensures c.in_ok-entries.ensures.listed
    c.device_at_start-device.ensures (planned_so c.plan-plan.result.now c.certificate.result.now c.args.node c.in_ok-terminus.terminus c.in_ok-terminus.ensures) c.new.ensures.setting c.new.ensures.stands
