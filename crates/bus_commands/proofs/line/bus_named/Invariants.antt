use Rattle.std.proofs.Common.{ℕ, ◌<◌}
use Rattle.bus_commands.specs.PacketLines.{NamesBus}
use Rattle.bus_commands.proofs.line.bus_named.Given as goal

abbrev pub invariant-loop-index : goal.invariant-loop-index
invariant-loop-index l = (b : ℕ) → b < l.index → ¬ NamesBus l.plan l.node l.name b
