use Rattle.net_runs.proofs.Asked.{requests_can_be_answered}
use Rattle.net_runs.proofs.laws.requests_can_be_answered.Goals as goal

pub returns : goal.returns
returns c = requests_can_be_answered
