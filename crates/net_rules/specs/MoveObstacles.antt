-- The certificate of a move, and why there is none.
use Rattle.std.specs.Prelude.{◌≡◌, ◌≢◌, ℕ, ◌<◌, None, Some, Option}
use Rattle.net_rules.{specs.declared.rule.Rule.{Rule}, specs.declared.rule.Rule.TheVariants.{C10}, specs.declared.move_fault.MoveFault.{MoveFault}, specs.declared.move_fault.MoveRule.TheVariants.{M02}, specs.declared.move_error.MoveError.{MoveError}, specs.declared.certify_error.CertifyError.{CertifyError}, specs.declared.move_obstacle.MoveObstacle.{MoveObstacle}, specs.Faults.{order_of}, specs.MoveRules.{Requirement, After, WayOnBefore, HaveSameFrame, IsSameNode, DemandsAfter, AcceptsMove}, specs.MoveFaults.{MoveFaultSite, MoveComesBefore, IsMoveMet, move_site, required_after}, specs.Certificates.{IsExactBy, IsOnlyExactBy, NamesObstacle}, specs.MoveRanks.{IsMoveRank, IsFirstMixedLoop}}
use Rattle.plan_values.{specs.declared.plan.Plan.{Plan}, specs.declared.certificate.Certificate.{Certificate}}
use Rattle.net_rules.specs.declared.move_error.MoveError.TheVariants as error
use Rattle.net_rules.specs.declared.certify_error.CertifyError.TheVariants as alone
use Rattle.net_rules.specs.declared.move_obstacle.MoveObstacle.TheVariants as obstacle

-- The certificate gives each level and each place as the plan before has them, each rank as the rows of both plans have
-- it, and nothing else.
abbrev pub IsExactForMove : Plan → Plan → Certificate → Type 0
IsExactForMove before after cert = IsExactBy before (IsMoveRank before after) cert

abbrev pub IsOnlyExactForMove : Plan → Plan → Certificate → Type 0
IsOnlyExactForMove before after cert = IsOnlyExactBy before (IsMoveRank before after) cert

-- no certificate of the move is accepted
abbrev pub HasNoMoveCertificate : Plan → Plan → Type 0
HasNoMoveCertificate before after = (cert : Certificate) → ¬ AcceptsMove before after cert

-- the plans differ in rows alone
abbrev pub DifferInRowsAlone : Plan → Plan → Type 0
DifferInRowsAlone before after = HaveSameFrame before after × ((n : ℕ) → IsSameNode before after n)

-- the rows of the plan after meet the rules of a lesser order, with the certificate
abbrev pub RowsMeetBefore : Plan → Certificate → ℕ → Type 0
RowsMeetBefore after cert order =
    (rule : Rule) (n : ℕ) (entry eid : Option ℕ) → order_of rule < order → DemandsAfter after cert rule n entry eid

-- some certificate meets all that is asked before the site
abbrev pub CanReach : Plan → Plan → MoveFaultSite → Type 0
CanReach before after site =
    (cert : Certificate) × ((other : MoveFaultSite) → MoveComesBefore other site → IsMoveMet before after cert other)

-- No certificate meets what is asked at the site, and some certificate meets all that is asked before it.
pub record IsSureFault (before after : Plan) (site : MoveFaultSite) : Type 0 where
  pub broken : (cert : Certificate) → ¬ IsMoveMet before after cert site
  pub reached : CanReach before after site

-- the fault is such a one of the requirement, if there is one
abbrev pub IsSureFaultOf : Plan → Plan → Option Requirement → MoveFault → Type 0
IsSureFaultOf before after None fault = ⊥
IsSureFaultOf before after (Some requirement) fault = IsSureFault before after (move_site requirement fault)

-- the plans differ in more than rows: in their frames, or first in the node that the error names
abbrev pub NamesDifference : Plan → Plan → MoveError → Type 0
NamesDifference before after (error.Differ None) = ¬ HaveSameFrame before after
NamesDifference before after (error.Differ (Some n)) =
    HaveSameFrame before after × ¬ IsSameNode before after n × ((m : ℕ) → m < n → IsSameNode before after m)
NamesDifference before after (error.Old fault) = ⊥
NamesDifference before after (error.New fault) = ⊥
NamesDifference before after (error.Both fault) = ⊥
NamesDifference before after error.OutOfMemory = ⊥

-- The error names a fault that is there whatever the certificate, and nothing that is asked before it rules
-- certificates out. Of the plan before it is M02 alone.
abbrev pub NamesSureFault : Plan → Plan → MoveError → Type 0
NamesSureFault before after (error.Differ n) = NamesDifference before after (error.Differ n)
NamesSureFault before after (error.Old fault) =
    (fault.rule ≡ M02) × IsSureFault before after (move_site WayOnBefore fault)
NamesSureFault before after (error.New fault) = IsSureFaultOf before after (required_after fault.rule) fault
NamesSureFault before after (error.Both fault) = ⊥
NamesSureFault before after error.OutOfMemory = ⊥

-- What the obstacle names is there, and nothing that is asked before it rules certificates out.
abbrev pub NamesMoveObstacle : Plan → Plan → MoveObstacle → Type 0
NamesMoveObstacle before after obstacle.OutOfMemory = Unit {0}
NamesMoveObstacle before after (obstacle.Old e) =
    DifferInRowsAlone before after × (e ≢ alone.OutOfMemory) × NamesObstacle before e
NamesMoveObstacle before after (obstacle.Fault e) = NamesSureFault before after e
NamesMoveObstacle before after (obstacle.Loop loop) =
    CanReach before after (record { requirement = After C10; node = 0; entry = None; eid = None })
    × IsFirstMixedLoop before after loop

-- unless memory ran out, there is no certificate
abbrev pub RulesOutMoveCertificates : Plan → Plan → MoveObstacle → Type 0
RulesOutMoveCertificates before after o = o ≢ obstacle.OutOfMemory → HasNoMoveCertificate before after

-- what the search for ranks answers where there are none
abbrev pub NamesMixedLoop : Plan → Plan → MoveObstacle → Type 0
NamesMixedLoop before after obstacle.OutOfMemory = Unit {0}
NamesMixedLoop before after (obstacle.Old e) = ⊥
NamesMixedLoop before after (obstacle.Fault e) = ⊥
NamesMixedLoop before after (obstacle.Loop loop) = IsFirstMixedLoop before after loop

-- the obstacle that an error of check_move is
abbrev pub obstacle_of_error : MoveError → MoveObstacle
obstacle_of_error (error.Differ n) = obstacle.Fault (error.Differ n)
obstacle_of_error (error.Old fault) = obstacle.Fault (error.Old fault)
obstacle_of_error (error.New fault) = obstacle.Fault (error.New fault)
obstacle_of_error (error.Both fault) = obstacle.Fault (error.Both fault)
obstacle_of_error error.OutOfMemory = obstacle.OutOfMemory

-- the obstacle that an error of certify is
abbrev pub obstacle_of_old : CertifyError → MoveObstacle
obstacle_of_old (alone.Fault fault) = obstacle.Old (alone.Fault fault)
obstacle_of_old (alone.OwnerLoop nodes) = obstacle.Old (alone.OwnerLoop nodes)
obstacle_of_old (alone.Loop eid nodes) = obstacle.Old (alone.Loop eid nodes)
obstacle_of_old (alone.BadChain node kind entry) = obstacle.Old (alone.BadChain node kind entry)
obstacle_of_old alone.OutOfMemory = obstacle.OutOfMemory
