use Rattle.std.proofs.Common.{map, ap, ◌∙◌}
use Rattle.plan_exports.{specs.LinuxScripts.{linux_text}, specs.PlannedRows.{row_facts}, proofs.Scripts.{is_script}}
use Rattle.plan_exports.proofs.linux.linux_script.Goals as goal

pub returns : goal.returns
returns c =
    let plan = c.args.plan.now in
    let devices = ap (map (λ d. d.now)) c.deref.ensures.value in
    let rows = ap (map row_facts) c.deref-2.ensures.value in
    let is = ap (λ ds. linux_text plan c.args.node ds (map row_facts c.deref-2.result.now)) devices
    ∙ ap (linux_text plan c.args.node (map (λ d. d.now) c.in_ok-devices.devices.items)) rows in
    is_script plan c.args.node c.args.links.now _ _ _ c.in_ok-devices.ensures c.in_ok-rows.ensures (c.in_ok-text.ensures ∙ is)
