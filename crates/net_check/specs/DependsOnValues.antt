-- Facts of plans and certificates that depend on what these say alone.
use Rattle.std.specs.Prelude.{◌≡◌}
use Rattle.plan_values.{specs.declared.plan.Plan.{Plan}, specs.declared.certificate.Certificate.{Certificate}, specs.PlanValues.{plan_value}, specs.CertificateValues.{certificate_value}}

-- where it holds of one plan, it holds of each of the same value
abbrev pub DependsOnPlan : (Plan → Type 0) → Type 0
DependsOnPlan P = (plan other : Plan) → plan_value plan ≡ plan_value other → P plan → P other

-- of two plans
abbrev pub DependsOnPlans : (Plan → Plan → Type 0) → Type 0
DependsOnPlans P = (before before' after after' : Plan) → plan_value before ≡ plan_value before'
    → plan_value after ≡ plan_value after' → P before after → P before' after'

-- of a plan and a certificate
abbrev pub DependsOnValues : (Plan → Certificate → Type 0) → Type 0
DependsOnValues P = (plan other : Plan) (cert cert' : Certificate) → plan_value plan ≡ plan_value other
    → certificate_value cert ≡ certificate_value cert' → P plan cert → P other cert'

-- of two plans and a certificate
abbrev pub DependsOnMoveValues : (Plan → Plan → Certificate → Type 0) → Type 0
DependsOnMoveValues P = (before before' after after' : Plan) (cert cert' : Certificate)
    → plan_value before ≡ plan_value before' → plan_value after ≡ plan_value after'
    → certificate_value cert ≡ certificate_value cert' → P before after cert → P before' after' cert'
