-- That one cause at most is the first why there is no certificate.
use Rattle.std.specs.Prelude.{◌≡◌, ◌≢◌}
use Rattle.plan_values.specs.declared.plan.Plan.{Plan}
use Rattle.net_rules.{specs.declared.certify_error.CertifyError.{CertifyError}, specs.declared.move_obstacle.MoveObstacle.{MoveObstacle}, specs.Certificates.{NamesObstacle}, specs.MoveObstacles.{NamesMoveObstacle}}
use Rattle.net_rules.specs.declared.certify_error.CertifyError.TheVariants as alone
use Rattle.net_rules.specs.declared.move_obstacle.MoveObstacle.TheVariants as moving

-- the errors name the same fault, the same loop, or the same chain
abbrev pub IsSameObstacle : CertifyError → CertifyError → Type 0
IsSameObstacle (alone.Fault fault) (alone.Fault other) = fault ≡ other
IsSameObstacle (alone.OwnerLoop nodes) (alone.OwnerLoop others) = nodes.items ≡ others.items
IsSameObstacle (alone.Loop eid nodes) (alone.Loop other others) = (eid ≡ other) × (nodes.items ≡ others.items)
IsSameObstacle (alone.BadChain node kind entry) (alone.BadChain other wrong place) =
    (node ≡ other) × (kind ≡ wrong) × (entry ≡ place)
IsSameObstacle alone.OutOfMemory alone.OutOfMemory = Unit {0}
IsSameObstacle _ _ = ⊥

-- and so do those of a move
abbrev pub IsSameMoveObstacle : MoveObstacle → MoveObstacle → Type 0
IsSameMoveObstacle (moving.Old e) (moving.Old f) = IsSameObstacle e f
IsSameMoveObstacle (moving.Fault e) (moving.Fault f) = e ≡ f
IsSameMoveObstacle (moving.Loop loop) (moving.Loop other) =
    (loop.eid ≡ other.eid) × (loop.nodes.items ≡ other.nodes.items) × (loop.sides.items ≡ other.sides.items)
IsSameMoveObstacle moving.OutOfMemory moving.OutOfMemory = Unit {0}
IsSameMoveObstacle _ _ = ⊥

-- unless memory ran out, two errors of one plan name the same
abbrev pub HasOneObstacle : Plan → Type 0
HasOneObstacle plan = (e f : CertifyError) → NamesObstacle plan e → NamesObstacle plan f
    → e ≢ alone.OutOfMemory → f ≢ alone.OutOfMemory → IsSameObstacle e f

-- and so do two of one move
abbrev pub HasOneMoveObstacle : Plan → Plan → Type 0
HasOneMoveObstacle before after = (o p : MoveObstacle) → NamesMoveObstacle before after o
    → NamesMoveObstacle before after p → o ≢ moving.OutOfMemory → p ≢ moving.OutOfMemory → IsSameMoveObstacle o p
