use Rattle.net_runs.proofs.ByteRuns.{runs_go_on}
use Rattle.net_runs.proofs.laws.runs_go_on.Goals as goal

pub returns : goal.returns
returns c = runs_go_on
