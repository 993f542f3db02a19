use Rattle.std.proofs.Common.{ℕ, ◌<◌}
use Rattle.toml.specs.View.{view}
use Rattle.board_kept.specs.Kept.{IsNameAt}
use Rattle.board_kept.proofs.nodes.keeps_names.Given as goal

abbrev pub invariant-loop-index : goal.invariant-loop-index
invariant-loop-index l = (i : ℕ) → i < l.index → IsNameAt l.plan (view l.said) i
