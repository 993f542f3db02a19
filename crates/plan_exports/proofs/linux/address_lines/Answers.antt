use Rattle.std.proofs.Common.{◌+◌, string_bytes, ap, ◌∙◌}
use Rattle.plan_exports.{specs.LinuxScripts.{neighbor_line}, proofs.Said.{said_of_number}}
use Rattle.plan_exports.proofs.linux.address_lines.Goals as goal

pub loop-place-preserved : goal.loop-place-preserved
loop-place-preserved c =
    let line = neighbor_line c.args.front.now c.args.device.now c.args.address.now c.args.name.now in
    let eid = ap (λ (n : _). n + c.from-in-loop-place.result) c.from.ensures ∙ ap (λ (n : _). c.args.first.value + n) c.from-in-loop-place.ensures in
    said_of_number line c.args.first.value c.loop-place.place (string_bytes c.loop-place.text) c.deref.result.now _ c.loop-place.invariant c.in_ok-push_str.ensures.bytes
    (c.deref.ensures ∙ c.in_ok-neighbor_line.ensures ∙ ap line eid)
