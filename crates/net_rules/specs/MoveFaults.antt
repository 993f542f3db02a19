-- Where a move breaks what is required, which of the sites is the first, and what the errors of check_move say.
use Rattle.std.specs.Prelude.{ℕ, List, [], ◌∷◌, Option, Some, None, codes}
use Rattle.plan_values.{specs.declared.plan.Plan.{Plan}, specs.declared.certificate.Certificate.{Certificate}}
use Rattle.net_rules.{specs.declared.move_fault.MoveRule.{MoveRule}, specs.declared.move_fault.MoveRule.TheVariants.{OfPlan, M02, M03}, specs.declared.move_fault.MoveFault.{MoveFault}, specs.declared.move_error.MoveError.{MoveError}, specs.Rules.{code_of}, specs.Faults.{order_of, order_of_number, LessByFirstDifference}, specs.MoveRules.{Requirement, SameFrame, SameNode, Before, After, WayOnBefore, WayOnAfter, Given, MoveDemands}}
use Rattle.net_tables.specs.Routing.{eid_number}
use Rattle.net_rules.specs.declared.move_error.MoveError.TheVariants as error

-- the code that users see
abbrev pub code_of_move : MoveRule → List ℕ
code_of_move (OfPlan rule) = code_of rule
code_of_move M02 = codes "M02"
code_of_move M03 = codes "M03"

-- the code of an error; out of memory has none
abbrev pub code_of_error : MoveError → Option (List ℕ)
code_of_error (error.Differ _) = Some (codes "M01")
code_of_error (error.Old fault) = Some (code_of_move fault.rule)
code_of_error (error.New fault) = Some (code_of_move fault.rule)
code_of_error (error.Both fault) = Some (code_of_move fault.rule)
code_of_error error.OutOfMemory = None

-- a requirement and a node, with an entry and an EID where the requirement speaks of them
pub record MoveFaultSite : Type 0 where
  pub requirement : Requirement
  pub node : ℕ
  pub entry : Option ℕ
  pub eid : Option ℕ

-- a requirement's site in the order in which they are asked; the rules of one plan share it
abbrev pub order_of_requirement : Requirement → ℕ
order_of_requirement SameFrame = 0
order_of_requirement SameNode = 1
order_of_requirement (Before rule) = 2
order_of_requirement (After rule) = 3
order_of_requirement WayOnBefore = 4
order_of_requirement WayOnAfter = 5
order_of_requirement Given = 6

-- the site of its rule in the order of the rules of one plan
abbrev pub order_of_its_rule : Requirement → ℕ
order_of_its_rule SameFrame = 0
order_of_its_rule SameNode = 0
order_of_its_rule (Before rule) = order_of rule
order_of_its_rule (After rule) = order_of rule
order_of_its_rule WayOnBefore = 0
order_of_its_rule WayOnAfter = 0
order_of_its_rule Given = 0

-- by requirement, then rule, then node, then entry, then EID
abbrev pub MoveComesBefore : MoveFaultSite → MoveFaultSite → Type 0
MoveComesBefore p q = LessByFirstDifference
    (order_of_requirement p.requirement ∷ order_of_its_rule p.requirement ∷ p.node ∷ order_of_number p.entry
    ∷ order_of_number p.eid ∷ [])
    (order_of_requirement q.requirement ∷ order_of_its_rule q.requirement ∷ q.node ∷ order_of_number q.entry
    ∷ order_of_number q.eid ∷ [])

-- the requirement is met at the site
abbrev pub IsMoveMet : Plan → Plan → Certificate → MoveFaultSite → Type 0
IsMoveMet before after cert p = MoveDemands before after cert p.requirement p.node p.entry p.eid

-- the requirement is not met at the site, and each is at a site before it
pub record IsFirstMoveFault (before after : Plan) (cert : Certificate) (site : MoveFaultSite) : Type 0 where
  pub broken : ¬ IsMoveMet before after cert site
  pub first : (other : MoveFaultSite) → MoveComesBefore other site → IsMoveMet before after cert other

-- What a fault of a rule says is not met: of the plan before, of the plan after, and of both
-- together. Elsewhere the rule is not asked.
abbrev pub required_before : MoveRule → Option Requirement
required_before (OfPlan rule) = Some (Before rule)
required_before M02 = Some WayOnBefore
required_before M03 = None

abbrev pub required_after : MoveRule → Option Requirement
required_after (OfPlan rule) = Some (After rule)
required_after M02 = Some WayOnAfter
required_after M03 = None

abbrev pub required_of_both : MoveRule → Option Requirement
required_of_both (OfPlan rule) = None
required_of_both M02 = None
required_of_both M03 = Some Given

-- the site where the fault says that a requirement is not met
abbrev pub move_site : Requirement → MoveFault → MoveFaultSite
move_site requirement fault =
    record { requirement = requirement; node = fault.node; entry = fault.entry; eid = eid_number fault.eid }

-- there is a requirement, and the fault is the first and one of it
abbrev pub IsFirstFaultOf : Plan → Plan → Certificate → Option Requirement → MoveFault → Type 0
IsFirstFaultOf before after cert None fault = ⊥
IsFirstFaultOf before after cert (Some requirement) fault =
    IsFirstMoveFault before after cert (move_site requirement fault)

-- unless memory ran out, the error names the first fault
abbrev pub NamesFirstMoveFault : Plan → Plan → Certificate → MoveError → Type 0
NamesFirstMoveFault before after cert (error.Differ None) =
    IsFirstMoveFault before after cert (record { requirement = SameFrame; node = 0; entry = None; eid = None })
NamesFirstMoveFault before after cert (error.Differ (Some n)) =
    IsFirstMoveFault before after cert (record { requirement = SameNode; node = n; entry = None; eid = None })
NamesFirstMoveFault before after cert (error.Old fault) =
    IsFirstFaultOf before after cert (required_before fault.rule) fault
NamesFirstMoveFault before after cert (error.New fault) =
    IsFirstFaultOf before after cert (required_after fault.rule) fault
NamesFirstMoveFault before after cert (error.Both fault) =
    IsFirstFaultOf before after cert (required_of_both fault.rule) fault
NamesFirstMoveFault before after cert error.OutOfMemory = Unit {0}
