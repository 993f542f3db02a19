use Rattle.std.proofs.Common.{ℕ, ◌<◌}
use Rattle.toml.specs.View.{view}
use Rattle.board_kept.specs.Kept.{IsRowKeptAt}
use Rattle.board_kept.proofs.nodes.keeps_rows.Given as goal

abbrev pub invariant-loop-index : goal.invariant-loop-index
invariant-loop-index l = (i : ℕ) → i < l.index → IsRowKeptAt l.plan l.rows (view l.said) i
