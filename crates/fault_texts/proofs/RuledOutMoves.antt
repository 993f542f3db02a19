-- What rules certificates of a move out.
use Rattle.std.proofs.Common.{◌≡◌, ◌≢◌, ℕ, List, Some, subst}
use Rattle.plan_values.specs.declared.plan.Plan.{Plan}
use Rattle.net_rules.specs.declared.move_obstacle.MoveObstacle.{MoveObstacle}
use Rattle.plan_texts.specs.MoveLines.{move_obstacle_text}
use Rattle.net_rules.specs.declared.move_obstacle.MoveObstacle.TheVariants as obstacle

-- want of memory has no text
pub not_memory_of_move : (plan : Plan) (o : MoveObstacle) (text : List ℕ) → move_obstacle_text plan o ≡ Some text → o ≢ obstacle.OutOfMemory
not_memory_of_move plan o text told is =
    let untold : move_obstacle_text plan obstacle.OutOfMemory ≡ Some text = subst (λ o. move_obstacle_text plan o ≡ Some text) is told in
    cc
