use Rattle.net_tables.specs.TwoPlans.{one_plan, moving}
use Rattle.net_check.proofs.Whole.{accepted_walked_headline}
use Rattle.net_check.proofs.laws.walked_headline.Goals as goal

pub returns : goal.returns
returns c = record { plans = λ plan. accepted_walked_headline (one_plan plan); moves = λ before after. accepted_walked_headline (moving before after) }
