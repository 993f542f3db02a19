use Rattle.net_runs.proofs.Sent.{six_are_too_many}
use Rattle.net_runs.proofs.laws.six_are_too_many.Goals as goal

pub returns : goal.returns
returns c = six_are_too_many
