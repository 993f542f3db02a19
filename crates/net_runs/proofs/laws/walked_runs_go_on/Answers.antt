use Rattle.net_runs.proofs.WalkedGoings.{walked_runs_go_on}
use Rattle.net_runs.proofs.laws.walked_runs_go_on.Goals as goal

pub returns : goal.returns
returns c = walked_runs_go_on
