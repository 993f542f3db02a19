use Rattle.std.proofs.Common.{ℕ, ◌<◌}
use Rattle.toml.specs.View.{view}
use Rattle.board_kept.specs.Made.{ReachesAllAsked}
use Rattle.board_kept.proofs.fit.judge_all.Given as goal

abbrev pub invariant-loop-from : goal.invariant-loop-from
invariant-loop-from l = (a : ℕ) → a < l.from → ReachesAllAsked (view l.board) l.checked.0 a
