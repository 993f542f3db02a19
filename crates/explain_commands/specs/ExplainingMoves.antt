-- What `explain` prints of a move, and what the end of it says.
use Rattle.std.specs.Prelude.{◌≡◌, ◌⊎◌, ⊤, ℕ, List, ◌++◌}
use Rattle.plan_values.{specs.declared.certificate.Certificate.{Certificate}, specs.declared.plan.Plan.{Plan}}
use Rattle.net_rules.{specs.declared.certify_error.CertifyError.{CertifyError}, specs.declared.fault.Fault.{Fault}, specs.declared.mixed_loop.Side.TheVariants.{Old, New}, specs.declared.move_error.MoveError.{MoveError}, specs.declared.move_fault.MoveFault.{MoveFault}, specs.declared.move_fault.MoveRule.{MoveRule}, specs.declared.move_fault.MoveRule.TheVariants.{OfPlan, M02, M03}, specs.declared.move_obstacle.MoveObstacle.{MoveObstacle}, specs.MoveObstacles.{IsExactForMove}, specs.MoveRules.{AcceptsMove}}
use Rattle.command_answers.{specs.declared.status.Status.{Status}, specs.Answers.{Stream, GavePlanText}, specs.UnreadTexts.{IsUnreadText}}
use Rattle.fault_texts.specs.RuledOutMoves.{IsMoveRuledOutBy}
use Rattle.explain_commands.{specs.Explaining.{IsExplainedThere, IsSummedUp}, specs.MoveRows.{PlanFile, IsMixedLoopTold, IsWayOnTold}}
use Rattle.net_rules.specs.declared.certify_error.CertifyError.TheVariants as error
use Rattle.net_rules.specs.declared.move_error.MoveError.TheVariants as move_error
use Rattle.net_rules.specs.declared.move_obstacle.MoveObstacle.TheVariants as obstacle
use Rattle.command_answers.specs.declared.status.Status.TheVariants as status

-- ---- what rules certificates out

-- the lines explain an obstacle of the plan in this file, as one of that plan alone
abbrev pub IsExplainedIn : PlanFile → CertifyError → List ℕ → Type 0
IsExplainedIn file error lines = IsExplainedThere file.name file.text file.plan error lines

-- the lines explain a fault of the new plan: of a rule of a plan as of this plan alone, and else of M02
abbrev pub IsNewFaultTold : PlanFile → PlanFile → MoveRule → MoveFault → List ℕ → Type 0
IsNewFaultTold before after (OfPlan rule) fault lines = IsExplainedIn after
    (error.Fault (record { rule = rule; node = fault.node; entry = fault.entry; eid = fault.eid })) lines
IsNewFaultTold before after M02 fault lines = IsWayOnTold before after New fault lines
IsNewFaultTold before after M03 fault lines = ⊥

-- the lines explain what the move breaks whatever the certificate, where the plans differ in more than rows by words
-- alone
abbrev pub IsMoveErrorTold : PlanFile → PlanFile → MoveError → List ℕ → Type 0
IsMoveErrorTold before after (move_error.Differ _) lines = ⊤
IsMoveErrorTold before after (move_error.Old fault) lines = IsWayOnTold before after Old fault lines
IsMoveErrorTold before after (move_error.New fault) lines = IsNewFaultTold before after fault.rule fault lines
IsMoveErrorTold before after (move_error.Both fault) lines = ⊥
IsMoveErrorTold before after move_error.OutOfMemory lines = ⊥

-- the lines explain what rules certificates of the move out
abbrev pub IsMoveTold : PlanFile → PlanFile → MoveObstacle → List ℕ → Type 0
IsMoveTold before after (obstacle.Old e) lines = IsExplainedIn before e lines
IsMoveTold before after (obstacle.Fault e) lines = IsMoveErrorTold before after e lines
IsMoveTold before after (obstacle.Loop loop) lines = IsMixedLoopTold before after loop lines
IsMoveTold before after obstacle.OutOfMemory lines = ⊥

-- The lines are that of `certifymove`, and what explains it.
pub record IsMoveObstacleText (before after : PlanFile) (lines : List ℕ) : Type 0 where
  pub obstacle : MoveObstacle
  pub line : List ℕ
  pub told : List ℕ
  pub ruled_out : IsMoveRuledOutBy before.plan after.plan obstacle line
  pub explained : IsMoveTold before after obstacle told
  pub written : lines ≡ line ++ told

-- ---- a move that has a certificate

-- The exact certificate of the move fits it. The text says yes, and sums the plan before up.
pub record IsSoundMoveText (before after : Plan) (text : List ℕ) : Type 0 where
  pub certificate : Certificate
  pub accepted : AcceptsMove before after certificate
  pub exact : IsExactForMove before after certificate
  pub written : IsSummedUp before text

-- ---- a run

-- a run that says so of both plans ends so: as `certifymove` ends of them
abbrev pub IsMoveExplained : PlanFile → PlanFile → Status → List ℕ → Type 0
IsMoveExplained before after status.Yes lines = IsSoundMoveText before.plan after.plan lines
IsMoveExplained before after status.Fault lines = IsMoveObstacleText before after lines
IsMoveExplained before after status.Unreadable lines = ⊥
IsMoveExplained before after status.NoMemory lines = ⊥

-- a run that says so of the plan before and the source of the plan after, which has this name, ends so
abbrev pub IsMoveExplainedWith : PlanFile → List ℕ → Stream → Status → List ℕ → Type 0
IsMoveExplainedWith before name afters ended lines =
    ((text : List ℕ) × (plan : Plan) × GavePlanText afters text plan
    × IsMoveExplained before (record { name = name; text = text; plan = plan }) ended lines)
    ⊎ ((ended ≡ status.Unreadable) × IsUnreadText afters lines)

-- the lines answer for the sources of both plans, which have these names, in a run that ends so: they explain what was
-- given, or why something was not
abbrev pub ExplainsMoveSo : List ℕ → List ℕ → Stream → Stream → Status → List ℕ → Type 0
ExplainsMoveSo name new_name befores afters ended lines =
    ((text : List ℕ) × (plan : Plan) × GavePlanText befores text plan
    × IsMoveExplainedWith (record { name = name; text = text; plan = plan }) new_name afters ended lines)
    ⊎ ((ended ≡ status.Unreadable) × IsUnreadText befores lines)
