use Rattle.plan_texts.proofs.SameNames.{fault_alike, obstacle_alike, move_error_alike, move_obstacle_alike}
use Rattle.plan_texts.proofs.laws.lines_depend_on_values_alone.Goals as goal

pub returns : goal.returns
returns c = record {
  fault = fault_alike;
  obstacle = obstacle_alike;
  move_error = move_error_alike;
  move_obstacle = move_obstacle_alike;
}
