use Rattle.std.proofs.Common.{inl}
use Rattle.bus_commands.proofs.emulate.emulate.Goals as goal

pub returns-in-Ok-clause-plays : goal.returns-in-Ok-clause-plays
returns-in-Ok-clause-plays g c =
    let begun = c.in-Ok.ensures in inl (_, begun.0, begun.1, c.play_lines.ensures.plays begun.0 begun.2)
