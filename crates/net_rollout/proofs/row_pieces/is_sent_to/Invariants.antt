use Rattle.net_rollout.proofs.Sending.{IsSentBefore}
use Rattle.net_rollout.proofs.row_pieces.is_sent_to.Given as goal

abbrev pub invariant-loop-row : goal.invariant-loop-row
invariant-loop-row l = IsSentBefore l.rows l.row-index l.eid.value l.next l.is_sent
