-- Where a plan itself breaks a rule, whatever the certificate.
use Rattle.std.specs.Prelude.{◌≡◌, ℕ, Option, Some, None}
use Rattle.net_rules.{specs.declared.rule.Rule.{Rule}, specs.declared.fault.Fault.{Fault}, specs.Rules.{PlanDemands}, specs.Faults.{FaultSite, site_of, ComesBefore}}
use Rattle.plan_values.specs.declared.plan.Plan.{Plan}

-- the plan meets the rule everywhere, as far as the rule speaks of the plan alone
abbrev pub PlanMeets : Plan → Rule → Type 0
PlanMeets plan rule = (n : ℕ) (entry eid : Option ℕ) → PlanDemands plan rule n entry eid

-- and each rule
abbrev pub PlanMeetsAll : Plan → Type 0
PlanMeetsAll plan = (rule : Rule) → PlanMeets plan rule

abbrev pub IsMetByPlan : Plan → FaultSite → Type 0
IsMetByPlan plan p = PlanDemands plan p.rule p.node p.entry p.eid

-- The plan breaks the rule at the site, and none at a site before it.
pub record IsFirstPlanFault (plan : Plan) (site : FaultSite) : Type 0 where
  pub broken : ¬ IsMetByPlan plan site
  pub first : (other : FaultSite) → ComesBefore other site → IsMetByPlan plan other

-- what the search answers: the first fault of one rule, if any
abbrev pub IsFirstOfPlanRule : Plan → Rule → Option Fault → Type 0
IsFirstOfPlanRule plan rule None = PlanMeets plan rule
IsFirstOfPlanRule plan rule (Some fault) =
    (fault.rule ≡ rule) × ¬ IsMetByPlan plan (site_of fault)
    × ((other : FaultSite) → other.rule ≡ rule → ComesBefore other (site_of fault) → IsMetByPlan plan other)
