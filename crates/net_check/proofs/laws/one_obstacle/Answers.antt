use Rattle.net_check.{proofs.OneObstacle.{one_obstacle}, proofs.OneMoveObstacle.{one_move_obstacle}}
use Rattle.net_check.proofs.laws.one_obstacle.Goals as goal

pub returns : goal.returns
returns c = record { plans = one_obstacle; moves = one_move_obstacle }
