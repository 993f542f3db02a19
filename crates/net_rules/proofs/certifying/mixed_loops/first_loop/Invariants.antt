use Rattle.std.proofs.Common.{ℕ, ◌<◌}
use Rattle.net_rules.{specs.Circles.{IsOnCircle}, specs.LongestWays.{MovesByEither}}
use Rattle.net_rules.proofs.certifying.mixed_loops.first_loop.Given as goal

abbrev pub invariant-loop-start : goal.invariant-loop-start
invariant-loop-start l = (n : ℕ) → n < l.start → ¬ IsOnCircle (MovesByEither l.old l.new) n
