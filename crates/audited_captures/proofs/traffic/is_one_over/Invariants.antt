use Rattle.std.proofs.Common.{◌≡◌, drop}
use Rattle.audited_captures.specs.Traffic.{is_one_over}
use Rattle.audited_captures.proofs.traffic.is_one_over.Given as goal

abbrev pub invariant-loop-step : goal.invariant-loop-step
invariant-loop-step l = is_one_over l.plan l.bus l.steps ≡ is_one_over l.plan l.bus (drop l.step-index l.steps)
