use Rattle.net_runs.proofs.WalkedSteps.{walks_never_get_stuck}
use Rattle.net_runs.proofs.laws.walks_never_get_stuck.Goals as goal

pub returns : goal.returns
returns c = walks_never_get_stuck
