use Rattle.net_rules.proofs.Ends.{ends_within_rank}
use Rattle.net_tables.specs.TwoPlans.{one_plan}
use Rattle.net_check.proofs.Whole.{accepted_headline, accepted_delivers, accepted_walks}
use Rattle.net_check.proofs.laws.accepted_plans_keep_their_promises.Goals as goal

pub returns : goal.returns
returns c = record {
  ends = ends_within_rank;
  headline = λ plan. accepted_headline (one_plan plan);
  delivers = λ plan. accepted_delivers (one_plan plan);
  walks = λ plan. accepted_walks (one_plan plan);
}
