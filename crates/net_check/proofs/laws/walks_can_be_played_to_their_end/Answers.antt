use Rattle.net_tables.specs.TwoPlans.{one_plan, moving}
use Rattle.net_check.proofs.Whole.{accepted_can_be_played}
use Rattle.net_check.proofs.laws.walks_can_be_played_to_their_end.Goals as goal

pub returns : goal.returns
returns c = record { plans = λ plan. accepted_can_be_played (one_plan plan); moves = λ before after. accepted_can_be_played (moving before after) }
