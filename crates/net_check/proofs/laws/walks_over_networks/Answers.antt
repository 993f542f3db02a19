use Rattle.net_tables.specs.TwoPlans.{one_plan}
use Rattle.net_check.proofs.Whole.{accepted_walks}
use Rattle.net_check.proofs.laws.walks_over_networks.Goals as goal

pub returns : goal.returns
returns c = λ plan. accepted_walks (one_plan plan)
