use Rattle.std.proofs.Common.{◌≡◌, map, take, string_bytes}
use Rattle.net_sim.specs.Outcomes.{outcome_value}
use Rattle.command_answers.specs.Gathering.{AppendsAllBut}
use Rattle.run_texts.specs.OutcomeLines.{outcome_lines}
use Rattle.play_commands.proofs.sim.print_outcomes.Given as goal

abbrev pub invariant-loop-index : goal.invariant-loop-index
invariant-loop-index g l =
    AppendsAllBut (string_bytes l.gathered.lines) (g.O.Sink.account l.initial.output).bytes (g.O.Sink.account l.output).bytes (outcome_lines l.plan (take l.index (map outcome_value l.outcomes)))
    × ((g.O.Sink.account l.output).failures ≡ (g.O.Sink.account l.initial.output).failures)
