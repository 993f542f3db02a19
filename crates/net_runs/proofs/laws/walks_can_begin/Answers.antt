use Rattle.net_runs.proofs.FirstAsks.{can_ask}
use Rattle.net_runs.proofs.laws.walks_can_begin.Goals as goal

pub returns : goal.returns
returns c = can_ask
