use Rattle.std.proofs.Common.{map}
use Rattle.plan_exports.proofs.Devicing.{HaveDevices}
use Rattle.plan_exports.proofs.devices.devices_of.Given as goal

abbrev pub invariant-loop-bus : goal.invariant-loop-bus
invariant-loop-bus l = HaveDevices l.plan l.links l.bus (map (λ d. d.now) l.devices.items)
