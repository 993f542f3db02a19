use Rattle.audited_captures.proofs.TrafficLaws.{traffic_matches}
use Rattle.audited_captures.proofs.laws.traffic_matches_where_as_planned.Goals as goal

pub returns : goal.returns
returns c = traffic_matches
