use Rattle.std.proofs.Common.{ℕ, ◌<◌}
use Rattle.toml.specs.View.{view}
use Rattle.board_values.specs.Owners.{IsOwnerFlagged}
use Rattle.board_values.proofs.owners.are_owners_flagged.Given as goal

abbrev pub invariant-loop-node : goal.invariant-loop-node
invariant-loop-node l = (n : ℕ) → n < l.node → IsOwnerFlagged (view l.board) l.above n
