use Rattle.std.proofs.Common.{◌≡◌, map, take, string_bytes}
use Rattle.net_sim.specs.Outcomes.{outcome_value}
use Rattle.run_texts.specs.OutcomeLines.{outcome_lines}
use Rattle.verify_commands.proofs.runs.outcome_lines.Given as goal

abbrev pub invariant-loop-index : goal.invariant-loop-index
invariant-loop-index l = string_bytes l.lines ≡ outcome_lines l.plan (take l.index (map outcome_value l.outcomes))
