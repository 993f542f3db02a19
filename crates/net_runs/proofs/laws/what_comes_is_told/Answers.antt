use Rattle.net_runs.proofs.Told.{tells_what_comes}
use Rattle.net_runs.proofs.laws.what_comes_is_told.Goals as goal

pub returns : goal.returns
returns c = tells_what_comes
