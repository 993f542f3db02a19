use Rattle.std.proofs.Common.{ℕ, ◌<◌}
use Rattle.net_reached.specs.Wishes.{ReachesNode}
use Rattle.board_kept.proofs.rowed.judge_from.Given as goal

abbrev pub invariant-loop-to : goal.invariant-loop-to
invariant-loop-to l = (b : ℕ) → b < l.to → ReachesNode l.checked.0 l.from b
