use Rattle.std.proofs.Common.{map, string_bytes, ◌∙◌}
use Rattle.plan_exports.{specs.LinuxScripts.{eid_line}, proofs.Said.{said_more}}
use Rattle.plan_exports.proofs.linux.push_eids.Goals as goal

pub loop-bus-preserved : goal.loop-bus-preserved
loop-bus-preserved c =
    said_more (eid_line c.args.plan.now c.args.node (map (λ d. d.now) c.args.devices.now)) c.args.buses.now c.loop-bus.bus-index _ (string_bytes c.args.text.now)
    (string_bytes c.loop-bus.text) c.deref.result.now _ c.loop-bus-test.true c.loop-bus.invariant c.in_ok-push_str.ensures.bytes (c.deref.ensures ∙ c.in_ok-eid_line.ensures)
