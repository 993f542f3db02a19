use Rattle.net_rollout.proofs.Sending.{ArePieces}
use Rattle.net_rollout.proofs.row_pieces.add_pieces.Given as goal

abbrev pub invariant-loop-row : goal.invariant-loop-row
invariant-loop-row l = ArePieces l.initial.made.items l.made.items l.rows l.row-index l.from l.to
