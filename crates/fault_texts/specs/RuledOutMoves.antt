-- The line of what rules certificates of a move out.
use Rattle.std.specs.Prelude.{◌≡◌, ℕ, List, Some}
use Rattle.plan_values.specs.declared.plan.Plan.{Plan}
use Rattle.net_rules.{specs.declared.move_obstacle.MoveObstacle.{MoveObstacle}, specs.MoveObstacles.{NamesMoveObstacle, HasNoMoveCertificate}}
use Rattle.plan_texts.specs.MoveLines.{move_obstacle_text}

-- The text tells what comes first, in the order in which moves are checked, of what rules certificates of the move out,
-- and there is none.
pub record IsMoveRuledOutBy (before after : Plan) (obstacle : MoveObstacle) (text : List ℕ) : Type 0 where
  pub first : NamesMoveObstacle before after obstacle
  pub none : HasNoMoveCertificate before after
  pub written : move_obstacle_text before obstacle ≡ Some text
