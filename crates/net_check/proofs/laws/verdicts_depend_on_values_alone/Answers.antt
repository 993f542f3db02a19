use Rattle.net_check.{proofs.SameVerdicts.{accepts_alike, fault_alike, accepts_move_alike, move_fault_alike}, proofs.SameObstacles.{obstacle_alike, exact_alike, move_obstacle_alike, exact_for_move_alike}}
use Rattle.net_check.proofs.laws.verdicts_depend_on_values_alone.Goals as goal

pub returns : goal.returns
returns c = record {
  accepted = accepts_alike;
  first_fault = fault_alike;
  exact = exact_alike;
  obstacle = obstacle_alike;
  move_accepted = accepts_move_alike;
  move_fault = move_fault_alike;
  move_exact = exact_for_move_alike;
  move_obstacle = move_obstacle_alike;
}
