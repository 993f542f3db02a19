use Rattle.std.proofs.Common.{map, string_bytes, ◌∙◌, []}
use Rattle.plan_exports.{specs.DeviceTrees.{bus_part}, proofs.Said.{said_more}}
use Rattle.plan_exports.proofs.device_trees.bus_parts.Goals as goal

pub loop-bus-preserved : goal.loop-bus-preserved
loop-bus-preserved c =
    said_more (bus_part c.args.plan.now c.args.node (map (λ d. d.now) c.args.labels.now)) c.args.buses.now c.loop-bus.bus-index _ []
    (string_bytes c.loop-bus.text) c.deref.result.now _ c.loop-bus-test.true c.loop-bus.invariant c.in_ok-push_str.ensures.bytes (c.deref.ensures ∙ c.in_ok-bus_part.ensures)
