use Rattle.std.proofs.Common.{map, string_bytes, ◌∙◌}
use Rattle.plan_exports.{specs.LinuxScripts.{route_line}, specs.PlannedRows.{row_facts}, proofs.Said.{said_of_more}}
use Rattle.plan_exports.proofs.linux.push_routes.Goals as goal

pub loop-row-preserved : goal.loop-row-preserved
loop-row-preserved c =
    said_of_more (route_line c.args.plan.now (map (λ d. d.now) c.args.devices.now)) row_facts c.args.rows.now c.loop-row.row-index c.row-item.result (string_bytes c.args.text.now)
    (string_bytes c.loop-row.text) c.deref.result.now _ c.loop-row-test.true c.row-item.is c.loop-row.invariant c.in_ok-push_str.ensures.bytes (c.deref.ensures ∙ c.in_ok-route_line.ensures)
