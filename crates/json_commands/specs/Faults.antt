-- What `faults` answers.
use Rattle.std.specs.Prelude.{◌≡◌, ◌⊎◌, ℕ, List, [], ◌∷◌, codes, Option, None}
use Rattle.serde_json.specs.Data.{Data}
use Rattle.plan_values.{specs.declared.plan.Plan.{Plan}, specs.declared.certificate.Certificate.{Certificate}}
use Rattle.net_faults.{specs.declared.plan_fault.PlanFault.{PlanFault}, specs.declared.plan_fault.PlanFault.TheVariants.{Broken, Obstacle}, specs.PlanFaults.{AreAllFaults, HasCertificate}}
use Rattle.net_rules.{specs.declared.certify_error.CertifyError.{CertifyError}, specs.Rules.{code_of}}
use Rattle.fault_texts.specs.Places.{plan_fault_pointer}
use Rattle.command_answers.specs.declared.status.Status.{Status}
use Rattle.command_questions.specs.declared.form.Form.{Form}
use Rattle.json_commands.{specs.Answers.{IsAnswer, IsItemAt}, specs.Values.{IsListTold, empty_data}}
use Rattle.net_rules.specs.declared.certify_error.CertifyError.TheVariants as error
use Rattle.command_answers.specs.declared.status.Status.TheVariants as status

-- the code of the rule that is broken, or for which no certificate can be made: levels (C07), ranks (C10), places (C14)
abbrev pub rule_of : CertifyError → List ℕ
rule_of (error.Fault fault) = code_of fault.rule
rule_of (error.OwnerLoop nodes) = codes "C07"
rule_of (error.Loop eid nodes) = codes "C10"
rule_of (error.BadChain node kind entry) = codes "C14"
rule_of error.OutOfMemory = codes "no memory"

abbrev pub fault_code : PlanFault → List ℕ
fault_code (Broken run) = code_of run.rule
fault_code (Obstacle obstacle more) = rule_of obstacle

-- the value is the result of one of all faults of the plan, which stands in the text of this name
abbrev pub IsFaultItem : Form → (name text : List ℕ) → Plan → PlanFault → Data → Type 0
IsFaultItem form name text plan fault d =
    IsItemAt form name text (fault_code fault) (plan_fault_pointer plan fault) d

-- the list of the one result of what rules certificates of the plan out
abbrev pub IsObstacleAlone : Form → (name text : List ℕ) → Plan → CertifyError → Data → Type 0
IsObstacleAlone form name text plan obstacle d =
    IsListTold (IsFaultItem form name text plan) (Obstacle obstacle 0 ∷ []) d

-- the value answers, in the form, with these faults of the plan, which stands in the text of this name
abbrev pub AreFaultsTold : Form → (name text : List ℕ) → Plan → List PlanFault → Data → Type 0
AreFaultsTold form name text plan faults d = (results : Data)
    × IsListTold (IsFaultItem form name text plan) faults results × IsAnswer form status.Fault results d

-- so it does of all that is wrong with the plan, or with it and the certificate
abbrev pub AreFaultsSaid : Form → (name text : List ℕ) → Plan → Option Certificate → Data → Type 0
AreFaultsSaid form name text plan cert d = (faults : List PlanFault) × AreAllFaults plan cert faults
    × AreFaultsTold form name text plan faults d

-- the value answers on the plan alone, which stands in the text of this name, in a run that ends so: nothing where it
-- has a certificate, and else all that rules these out
abbrev pub IsFaultsSaid : Form → (name text : List ℕ) → Plan → Status → Data → Type 0
IsFaultsSaid form name text plan ended d =
    ((ended ≡ status.Yes) × HasCertificate plan × IsAnswer form status.Yes empty_data d)
    ⊎ ((ended ≡ status.Fault) × (¬ HasCertificate plan) × AreFaultsSaid form name text plan None d)
