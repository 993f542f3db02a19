use Rattle.std.{proofs.Common.{◌≡◌, length}, specs.Io.KnownBytes.{Consumes}}
use Rattle.bus_commands.specs.Lines.{HasNoEnd}
use Rattle.bus_commands.proofs.lines.next_line.Given as goal

abbrev pub invariant-loop : goal.invariant-loop
invariant-loop g l = HasNoEnd l.text.items
    × Consumes (g.S.Source.account l.initial.source).bytes (g.S.Source.account l.source).bytes l.text.items
    × (length l.text.items ≡ l.counter)
    × ((g.S.Source.account l.source).failures ≡ (g.S.Source.account l.initial.source).failures)
