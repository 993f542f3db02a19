use Rattle.std.proofs.Common.{ℕ, ◌<◌}
use Rattle.board_kept.specs.Rowed.{IsRowOfNodeKept}
use Rattle.board_kept.proofs.rowed.keeps_rows_of.Given as goal

abbrev pub invariant-loop-index : goal.invariant-loop-index
invariant-loop-index l = (r : ℕ) → r < l.index → IsRowOfNodeKept l.before l.after l.node r
