use Rattle.audited_captures.proofs.NodeLaws.{nodes_match}
use Rattle.audited_captures.proofs.laws.nodes_match_where_as_planned.Goals as goal

pub returns : goal.returns
returns c = nodes_match
