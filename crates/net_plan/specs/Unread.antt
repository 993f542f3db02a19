-- Why a source gave no plan, no certificate and no events.
use Rattle.std.specs.Prelude.{ℕ, List, Option}
use Rattle.net_plan.{specs.CertificateReading.{certificate}, specs.CertificateText.{IsCertificateOf}, specs.EventReading.{events}, specs.EventText.{AreEventsOf}, specs.PlanReading.{plan}, specs.PlanText.{IsPlanOf}, specs.Refusals.{GaveNone}, specs.declared.error.PlanError.{PlanError}}
use Rattle.plan_values.specs.PlanValues.{PlanValue, node_names}

abbrev pub GaveNoPlan : Option (List ℕ) → Option (List ℕ) → PlanError → Type 0
GaveNoPlan old new e = GaveNone plan IsPlanOf old new e

abbrev pub GaveNoCertificate : PlanValue → Option (List ℕ) → Option (List ℕ) → PlanError → Type 0
GaveNoCertificate p old new e = GaveNone (certificate (node_names p.nodes)) (IsCertificateOf p) old new e

abbrev pub GaveNoEvents : PlanValue → Option (List ℕ) → Option (List ℕ) → PlanError → Type 0
GaveNoEvents p old new e = GaveNone (events (node_names p.nodes)) (AreEventsOf p) old new e
