-- The list of all faults, in which neighbouring EIDs of one rule, node and entry are one run.
use Rattle.std.specs.Prelude.{◌≡◌, ℕ, ◌+◌, ◌<◌, ◌≤◌, ◌⊎◌, List, [], ◌∷◌, Option, Some, None, ⊤, All, AllPairs, Contains, IfSome}
use Rattle.net_rules.{specs.declared.rule.Rule.{Rule}, specs.declared.fault_run.EidSpan.{EidSpan}, specs.declared.fault_run.FaultRun.{FaultRun}, specs.Rules.{PlanDemands, Demands}, specs.Faults.{FaultSite, order_of, order_of_number, LessByFirstDifference, ComesBefore}}
use Rattle.plan_values.{specs.declared.plan.Plan.{Plan}, specs.declared.certificate.Certificate.{Certificate}}

-- what a rule demands at a node, an entry and an EID: of the plan alone, or of it and a certificate
abbrev pub DemandsOf : Plan → Option Certificate → Rule → ℕ → Option ℕ → Option ℕ → Type 0
DemandsOf plan None rule n entry eid = PlanDemands plan rule n entry eid
DemandsOf plan (Some cert) rule n entry eid = Demands plan cert rule n entry eid

-- the rule is met at the site
abbrev pub IsMetBy : Plan → Option Certificate → FaultSite → Type 0
IsMetBy plan cert site = DemandsOf plan cert site.rule site.node site.entry site.eid

-- the EID is one of those from the first to the last; where there are none, there is no EID
abbrev pub IsAmong : Option EidSpan → Option ℕ → Type 0
IsAmong None None = ⊤
IsAmong None (Some e) = ⊥
IsAmong (Some eids) None = ⊥
IsAmong (Some eids) (Some e) = (eids.first.value ≤ e) × (e ≤ eids.last.value)

-- the site is one of the run's: of its rule, its node and its entry, and at one of its EIDs
abbrev pub IsOf : FaultRun → FaultSite → Type 0
IsOf run site =
    (site.rule ≡ run.rule) × (site.node ≡ run.node) × (site.entry ≡ run.entry) × IsAmong run.eids site.eid

-- the site is one of a run in the list
abbrev pub IsListed : List FaultRun → FaultSite → Type 0
IsListed runs site = (run : FaultRun) × Contains runs run × IsOf run site

-- the rule isn't met at any of the run's sites
abbrev pub IsBrokenRun : Plan → Option Certificate → FaultRun → Type 0
IsBrokenRun plan cert run = (site : FaultSite) → IsOf run site → ¬ IsMetBy plan cert site

-- where the run has EIDs, the rule is met at the one after the last
abbrev pub IsWholeRun : Plan → Option Certificate → FaultRun → Type 0
IsWholeRun plan cert run =
    IfSome run.eids (λ eids. DemandsOf plan cert run.rule run.node run.entry (Some (eids.last.value + 1)))

-- each site of the one run comes before each of the other
abbrev pub Precedes : FaultRun → FaultRun → Type 0
Precedes run other = (site later : FaultSite) → IsOf run site → IsOf other later → ComesBefore site later

-- Each run is broken at all of its sites and goes on as far as the rule is broken, and the runs are in order.
pub record AreRuns (plan : Plan) (cert : Option Certificate) (runs : List FaultRun) : Type 0 where
  pub broken : All (IsBrokenRun plan cert) runs
  pub whole : All (IsWholeRun plan cert) runs
  pub in_order : AllPairs Precedes runs

-- The runs are all of the faults, those of the plan alone or those of it and a certificate: at each site the rule is
-- met, or the site is listed.
pub record AreFaults (plan : Plan) (cert : Option Certificate) (runs : List FaultRun) : Type 0 where
  pub sound : AreRuns plan cert runs
  pub all : (site : FaultSite) → IsMetBy plan cert site ⊎ IsListed runs site

-- ---- lists that are being made

-- a site's numbers, by which sites are ordered
abbrev pub key_of : FaultSite → List ℕ
key_of site = order_of site.rule ∷ site.node ∷ order_of_number site.entry ∷ order_of_number site.eid ∷ []

-- the site comes before all whose numbers begin with these
abbrev pub IsBefore : List ℕ → FaultSite → Type 0
IsBefore numbers site = LessByFirstDifference (key_of site) numbers

-- the runs are all of the faults that come before these numbers
pub record AreFaultsBefore (plan : Plan) (cert : Option Certificate) (numbers : List ℕ)
    (runs : List FaultRun) : Type 0 where
  pub sound : AreRuns plan cert runs
  pub all : (site : FaultSite) → IsBefore numbers site → IsMetBy plan cert site ⊎ IsListed runs site
  pub before : All (λ run. (site : FaultSite) → IsOf run site → IsBefore numbers site) runs

-- e comes before the first one, or not before the end
abbrev pub IsOutside : ℕ → ℕ → ℕ → Type 0
IsOutside first end e = (e < first) ⊎ (end ≤ e)
