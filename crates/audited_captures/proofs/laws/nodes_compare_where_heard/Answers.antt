use Rattle.audited_captures.proofs.ComparedLaws.{nodes_compare}
use Rattle.audited_captures.proofs.laws.nodes_compare_where_heard.Goals as goal

pub returns : goal.returns
returns c = nodes_compare
