use Rattle.std.proofs.Common.{ℕ, ◌<◌, codes}
use Rattle.toml.specs.View.{view}
use Rattle.board_values.specs.Said.{IsItemKept}
use Rattle.board_kept.specs.Kept.{IsBusKept}
use Rattle.board_kept.proofs.kept.keeps_buses.Given as goal

abbrev pub invariant-loop-index : goal.invariant-loop-index
invariant-loop-index l = (i : ℕ) → i < l.index → IsItemKept IsBusKept l.buses (codes "bus") (view l.board) i
