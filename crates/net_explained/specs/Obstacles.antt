-- The order of what rules certificates of a plan out, and what an edit leaves of it.
use Rattle.std.specs.Prelude.{◌≡◌, ◌≢◌, ◌⊎◌, ℕ, List, [], ◌∷◌, Option, Some, None, All}
use Rattle.plan_values.{specs.declared.certificate.Certificate.{Certificate}, specs.declared.plan.Plan.{Plan}, specs.PlanValues.{PlanValue, plan_value}}
use Rattle.net_rules.{specs.Certificates.{HasNoCertificate, NamesObstacle}, specs.Faults.{FaultSite, LessByFirstDifference, ComesBefore, site_of, order_of, order_of_number}, specs.PlanFaults.{IsMetByPlan}, specs.Rules.{Accepts}, specs.declared.certify_error.CertifyError.{CertifyError}, specs.declared.fault.Fault.{Fault}, specs.declared.rule.Rule.TheVariants.{C07, C10, C14}}
use Rattle.net_tables.specs.Routing.{eid_number}
use Rattle.net_explained.{specs.Edits.{IsEdited}, specs.declared.trial.Tried.{Tried}}
use Rattle.net_rules.specs.declared.certify_error.CertifyError.TheVariants as error

-- By rule, and of one rule a fault of the plan before a loop. Faults by node, entry and EID, loops of rows by their
-- least EID, and chains by their node.
abbrev pub key_of : CertifyError → List ℕ
key_of (error.Fault f) =
    order_of f.rule ∷ 0 ∷ f.node ∷ order_of_number f.entry ∷ order_of_number (eid_number f.eid) ∷ []
key_of (error.OwnerLoop nodes) = order_of C07 ∷ 1 ∷ 0 ∷ 0 ∷ 0 ∷ []
key_of (error.Loop eid nodes) = order_of C10 ∷ 1 ∷ eid.value ∷ 0 ∷ 0 ∷ []
key_of (error.BadChain node kind entry) = order_of C14 ∷ 1 ∷ node ∷ 0 ∷ 0 ∷ []
key_of error.OutOfMemory = []

-- the second comes later, in the order in which `certify` looks for what rules certificates out
abbrev pub IsLater : CertifyError → CertifyError → Type 0
IsLater first second = LessByFirstDifference (key_of first) (key_of second)

-- What is then of the plan after an edit, where there was an obstacle before: a certificate fits it; or none does, and
-- the first obstacle of it comes later than that one.
abbrev pub IsLeft : CertifyError → Plan → Option CertifyError → Type 0
IsLeft obstacle after None = (certificate : Certificate) × Accepts after certificate
IsLeft obstacle after (Some next) =
    HasNoCertificate after × NamesObstacle after next × IsLater obstacle next

-- The edit was tried on a plan that has this obstacle: of the plan with just this changed that is so.
pub record IsTried (before : PlanValue) (obstacle : CertifyError) (tried : Tried) : Type 0 where
  pub after : Plan
  pub by_edit : IsEdited before tried.edit (plan_value after)
  pub left : IsLeft obstacle after tried.left

-- each of the edits leaves a plan that has a certificate, or none does
abbrev pub AreAlike : List Tried → Type 0
AreAlike tried = All (λ (t : Tried). t.left ≡ None) tried ⊎ All (λ (t : Tried). t.left ≢ None) tried

-- ---- laws

-- the site is that of the fault, or comes before it
abbrev pub IsUpTo : FaultSite → Fault → Type 0
IsUpTo site fault = ComesBefore site (site_of fault) ⊎ (site ≡ site_of fault)

-- the plan itself has neither this fault nor one that comes before it
abbrev pub IsRidOf : Plan → Fault → Type 0
IsRidOf plan fault = (site : FaultSite) → IsUpTo site fault → IsMetByPlan plan site

-- After an edit that was tried on a fault, the plan has neither that fault nor one that comes before it.
abbrev pub EditsTakeFaultsAway : Type 0
EditsTakeFaultsAway = (before : PlanValue) (fault : Fault) (tried : Tried)
    (tries : IsTried before (error.Fault fault) tried) → IsRidOf tries.after fault
