use Rattle.std.proofs.Common.{◌≡◌}
use Rattle.command_answers.specs.Answers.{stream}
use Rattle.bus_commands.proofs.LinesPlayed.{HasPlayed}
use Rattle.bus_commands.proofs.playing.play_lines.Given as goal

abbrev pub invariant-loop : goal.invariant-loop
invariant-loop g l = (g.P.Player.nature l.player ≡ g.P.Player.nature l.initial.player)
    × ((s : g.P.Player.State) → g.P.Player.stands l.initial.player s
    → HasPlayed (g.P.Player.stands l.player) (g.P.Player.takes (g.P.Player.nature l.initial.player)) s l.counter
    (stream g.I.Source.account l.initial.packets l.packets) (stream g.O.Sink.account l.initial.output l.output) (stream g.E.Sink.account l.initial.errors l.errors))
    × ((g.I.Source.account l.packets).failures ≡ (g.I.Source.account l.initial.packets).failures)
    × ((g.O.Sink.account l.output).failures ≡ (g.O.Sink.account l.initial.output).failures)
    × ((g.E.Sink.account l.errors).failures ≡ (g.E.Sink.account l.initial.errors).failures)
