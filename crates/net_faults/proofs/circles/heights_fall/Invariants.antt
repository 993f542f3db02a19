use Rattle.std.proofs.Common.{ℕ, ◌<◌}
use Rattle.net_faults.specs.Circles.{FallsFrom}
use Rattle.net_faults.proofs.circles.heights_fall.Given as goal

abbrev pub invariant-loop-index : goal.invariant-loop-index
invariant-loop-index l = (n : ℕ) → n < l.index → FallsFrom l.table l.heights n
