use Rattle.std.{proofs.Common.{◌∷◌, [], map, ap, sym, subst, ◌∙◌}, proofs.lemmas.List.{map-append}}
use Rattle.plan_exports.proofs.Devicing.{HaveDevices, more_devices}
use Rattle.plan_exports.proofs.devices.devices_of.Goals as goal

pub loop-bus-preserved : goal.loop-bus-preserved
loop-bus-preserved c =
    let before = c.loop-bus.invariant in
    let items = c.loop-bus.devices.items in
    let is = ap (map (λ d. d.now)) c.in_ok-push.ensures.items ∙ map-append (λ d. d.now) items (c.device_of.result ∷ []) in
    subst (HaveDevices c.args.plan.now c.args.links.now _) (sym is)
    (more_devices c.args.plan.now c.args.links.now c.loop-bus.bus (map (λ d. d.now) items) c.device_of.result.now before c.device_of.ensures)
