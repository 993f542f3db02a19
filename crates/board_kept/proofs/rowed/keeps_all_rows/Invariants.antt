use Rattle.std.proofs.Common.{ℕ, ◌<◌}
use Rattle.board_kept.specs.Rowed.{AreRowsOfNodeKept}
use Rattle.board_kept.proofs.rowed.keeps_all_rows.Given as goal

abbrev pub invariant-loop-node : goal.invariant-loop-node
invariant-loop-node l = (n : ℕ) → n < l.node → AreRowsOfNodeKept l.before l.after n
