use Rattle.std.proofs.Common.{◌≡◌, ◌+◌, ap, arith, map, string_bytes, ◌∙◌}
use Rattle.plan_exports.{specs.MctpdScripts.{child_line}, proofs.Said.{said_of_number}}
use Rattle.plan_exports.proofs.mctpd.children_lines.Goals as goal

pub loop-child-preserved : goal.loop-child-preserved
loop-child-preserved c =
    let line = child_line c.args.plan.now c.args.node (map (λ d. d.now) c.args.devices.now) in
    let from_zero : c.loop-child.child ≡ 0 + c.loop-child.child = omega arith in
    said_of_number line 0 c.loop-child.child (string_bytes c.loop-child.text) c.deref.result.now _ c.loop-child.invariant c.in_ok-push_str.ensures.bytes
    (c.deref.ensures ∙ c.in_ok-child_line.ensures ∙ ap line from_zero)
