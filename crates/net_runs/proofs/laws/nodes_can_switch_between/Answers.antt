use Rattle.net_runs.proofs.FirstAsks.{can_switch_and_ask}
use Rattle.net_runs.proofs.laws.nodes_can_switch_between.Goals as goal

pub returns : goal.returns
returns c = can_switch_and_ask
