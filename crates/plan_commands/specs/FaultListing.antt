-- What `faults` prints of a plan, and of a plan and its certificate.
use Rattle.std.specs.Prelude.{◌≡◌, ◌≢◌, ℕ, List, [], Option, Some, None}
use Rattle.plan_values.{specs.declared.plan.Plan.{Plan}, specs.declared.certificate.Certificate.{Certificate}}
use Rattle.net_faults.{specs.declared.plan_fault.PlanFault.{PlanFault}, specs.PlanFaults.{AreAllFaults, HasCertificate}}
use Rattle.command_answers.{specs.declared.status.Status.{Status}, specs.Statuses.{yes_line}}
use Rattle.fault_texts.specs.FaultListLines.{IsFaultsText}
use Rattle.command_answers.specs.declared.status.Status.TheVariants as status

-- The lines are those of all that is wrong with the plan, or with it and the certificate, with their places in the text
-- of this name, and how many they are. There is one at least.
pub record IsFaultList (name text : List ℕ) (plan : Plan) (cert : Option Certificate) (lines : List ℕ) : Type 0 where
  pub faults : List PlanFault
  pub all : AreAllFaults plan cert faults
  pub some : faults ≢ []
  pub written : IsFaultsText plan name text faults lines

-- the same of a plan and a certificate
abbrev pub IsFaultListOf : List ℕ → List ℕ → Plan → Certificate → List ℕ → Type 0
IsFaultListOf name text plan cert lines = IsFaultList name text plan (Some cert) lines

-- a run that says so of the plan alone ends so: the plan has a certificate, or it has none and there is something to
-- list
abbrev pub IsListed : List ℕ → List ℕ → Plan → Status → List ℕ → Type 0
IsListed name text plan status.Yes lines = HasCertificate plan × (lines ≡ yes_line)
IsListed name text plan status.Fault lines = (¬ HasCertificate plan) × IsFaultList name text plan None lines
IsListed name text plan status.Unreadable lines = ⊥
IsListed name text plan status.NoMemory lines = ⊥
