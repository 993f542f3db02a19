use Rattle.toml.specs.View.{view}
use Rattle.board_values.specs.Owners.{HaveTaken}
use Rattle.board_values.proofs.shares.taken_of.Given as goal

abbrev pub invariant-loop-node : goal.invariant-loop-node
invariant-loop-node l = HaveTaken (view l.board) l.owner l.node l.total
