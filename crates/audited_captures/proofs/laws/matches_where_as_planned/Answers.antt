use Rattle.audited_captures.proofs.PlannedReadings.{matches}
use Rattle.audited_captures.proofs.laws.matches_where_as_planned.Goals as goal

pub returns : goal.returns
returns c = matches
