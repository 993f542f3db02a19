use Rattle.std.{proofs.Common.{◌≢◌, take}, specs.Prelude.{All}}
use Rattle.plan_exports.proofs.devices.linked.Given as goal

abbrev pub invariant-loop-link : goal.invariant-loop-link
invariant-loop-link l = All (λ other. other.bus.now ≢ l.name) (take l.link-index l.links)
