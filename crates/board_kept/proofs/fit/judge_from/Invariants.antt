use Rattle.std.proofs.Common.{ℕ, ◌<◌}
use Rattle.toml.specs.View.{view}
use Rattle.net_reached.specs.Wishes.{ReachesNode}
use Rattle.board_kept.specs.Made.{AsksFor}
use Rattle.board_kept.proofs.fit.judge_from.Given as goal

abbrev pub invariant-loop-to : goal.invariant-loop-to
invariant-loop-to l = (b : ℕ) → b < l.to → AsksFor (view l.board) l.checked.0 l.from b → ReachesNode l.checked.0 l.from b
