use Rattle.std.{proofs.Common.{◌≡◌, ◌++◌, map, string_bytes, take}, specs.List.{flat_map}}
use Rattle.plan_exports.specs.LinuxScripts.{eid_line}
use Rattle.plan_exports.proofs.linux.push_eids.Given as goal

abbrev pub invariant-loop-bus : goal.invariant-loop-bus
invariant-loop-bus l = string_bytes l.text ≡ string_bytes l.fn.text ++ flat_map (eid_line l.plan l.node (map (λ d. d.now) l.devices)) (take l.bus-index l.buses)
