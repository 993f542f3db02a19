use Rattle.std.proofs.Common.{ℕ, ◌<◌, codes}
use Rattle.toml.specs.View.{view}
use Rattle.board_values.specs.Said.{SaysText, item_at}
use Rattle.board_kept.proofs.asked.lists_name.Given as goal

abbrev pub invariant-loop-index : goal.invariant-loop-index
invariant-loop-index l = (i : ℕ) → i < l.index → ¬ SaysText (item_at (codes "reaches") i (view l.said)) l.name
