use Rattle.std.proofs.Common.{ℕ, ◌<◌, codes}
use Rattle.toml.specs.View.{view}
use Rattle.board_values.specs.Said.{IsItemKept}
use Rattle.board_kept.specs.Kept.{IsNodeKept}
use Rattle.board_kept.proofs.kept.keeps_nodes.Given as goal

abbrev pub invariant-loop-index : goal.invariant-loop-index
invariant-loop-index l = (i : ℕ) → i < l.index → IsItemKept (IsNodeKept l.files (view l.board) l.plan) l.plan.nodes.items (codes "node") (view l.board) i
