use Rattle.net_tables.specs.TwoPlans.{one_plan, moving}
use Rattle.net_runs.proofs.OneWalkedOutcomes.{one_walked_outcome}
use Rattle.net_check.proofs.Whole.{accepted_has_one_walked_outcome}
use Rattle.net_check.proofs.laws.one_walked_outcome.Goals as goal

pub returns : goal.returns
returns c = record {
  tables = one_walked_outcome;
  runs = λ plan. accepted_has_one_walked_outcome (one_plan plan);
  moves = λ before after. accepted_has_one_walked_outcome (moving before after);
}
