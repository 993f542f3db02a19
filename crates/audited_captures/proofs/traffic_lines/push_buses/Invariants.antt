use Rattle.std.{proofs.Common.{◌≡◌, ◌++◌, take}, specs.Prelude.{codes, string_bytes}, specs.List.{flat_map}}
use Rattle.net_questions.specs.declared.step.WayStep.{WayStep}
use Rattle.audited_captures.specs.TrafficLines.{step_bus}
use Rattle.audited_captures.proofs.traffic_lines.push_buses.Given as goal

abbrev pub invariant-loop-step : goal.invariant-loop-step
invariant-loop-step l = string_bytes l.text ≡ string_bytes l.fn.text ++ flat_map (λ (later : WayStep). codes ", " ++ step_bus l.plan later) (take l.step-index l.steps)
