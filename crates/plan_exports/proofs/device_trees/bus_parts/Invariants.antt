use Rattle.std.{proofs.Common.{◌≡◌, map, string_bytes, take}, specs.List.{flat_map}}
use Rattle.plan_exports.specs.DeviceTrees.{bus_part}
use Rattle.plan_exports.proofs.device_trees.bus_parts.Given as goal

abbrev pub invariant-loop-bus : goal.invariant-loop-bus
invariant-loop-bus l = string_bytes l.text ≡ flat_map (bus_part l.plan l.node (map (λ d. d.now) l.labels)) (take l.bus-index l.buses)
