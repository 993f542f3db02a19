use Rattle.net_rules.proofs.SpanLaws.{AreJoinedBefore}
use Rattle.net_rules.proofs.spans.join.Given as goal

abbrev pub invariant-loop-row : goal.invariant-loop-row
invariant-loop-row l = AreJoinedBefore l.rows l.row-index l.spans.items l.last l.apart
