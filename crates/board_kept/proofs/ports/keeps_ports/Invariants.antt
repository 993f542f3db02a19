use Rattle.std.proofs.Common.{ℕ, ◌<◌, codes}
use Rattle.toml.specs.View.{view}
use Rattle.board_values.specs.Said.{IsItemKept}
use Rattle.board_kept.specs.Kept.{IsPortKept}
use Rattle.board_kept.proofs.ports.keeps_ports.Given as goal

abbrev pub invariant-loop-index : goal.invariant-loop-index
invariant-loop-index l = (i : ℕ) → i < l.index → IsItemKept (IsPortKept (view l.board) l.plan) l.ports (codes "ports") (view l.said) i
