use Rattle.std.proofs.Common.{ℕ, ◌<◌}
use Rattle.board_kept.specs.Rowed.{ReachesAll}
use Rattle.board_kept.proofs.whole.all_reach.Given as goal

abbrev pub invariant-loop-from : goal.invariant-loop-from
invariant-loop-from l = (a : ℕ) → a < l.from → ReachesAll l.checked.0 a
