-- What `explain` answers.
use Rattle.std.{specs.Prelude.{◌≡◌, ◌≢◌, ◌≤◌, ◌⊎◌, ℕ, List, codes, length, Option, Some, None}, specs.List.{All}}
use Rattle.serde_json.specs.Data.{Data}
use Rattle.net_explained.{specs.declared.cause.Cause.{Cause}, specs.declared.trial.Tried.{Tried}, specs.Causes.{IsCauseAt}, specs.Obstacles.{IsTried}}
use Rattle.plan_values.{specs.declared.certificate.Certificate.{Certificate}, specs.declared.plan.Plan.{Plan}, specs.PlanValues.{plan_value}}
use Rattle.net_rules.{specs.declared.certify_error.CertifyError.{CertifyError}, specs.declared.fault.Fault.{Fault}, specs.Certificates.{HasNoCertificate, IsExact, NamesObstacle}, specs.Faults.{site_of}, specs.Rules.{Accepts}}
use Rattle.command_answers.specs.declared.status.Status.{Status}
use Rattle.command_questions.specs.declared.form.Form.TheVariants.{Json}
use Rattle.json_commands.{specs.Answers.{IsAnswer}, specs.Edits.{IsEditTold}, specs.Faults.{IsObstacleAlone}, specs.Values.{Has, IsListTold, empty_data}}
use Rattle.net_rules.specs.declared.certify_error.CertifyError.TheVariants as error
use Rattle.command_answers.specs.declared.status.Status.TheVariants as status

-- the value answers with these lists of results and of edits in a run that ends so
abbrev pub IsExplained : Status → (results edits d : Data) → Type 0
IsExplained ended results edits d = IsAnswer Json ended results d × Has (codes "edits") edits d

-- the value answers that nothing is wrong
abbrev pub IsSound : Data → Type 0
IsSound d = IsExplained status.Yes empty_data empty_data d

-- the list of at most three edits of the plan that has this obstacle, each of them tried
abbrev pub AreEditsTold : Plan → CertifyError → Data → Type 0
AreEditsTold plan obstacle d = (edits : List Tried) × All (IsTried (plan_value plan) obstacle) edits
    × (length edits ≤ 3) × IsListTold (IsEditTold plan) edits d

-- the value answers with an obstacle of the plan, which stands in the text of this name, and with edits that were tried
abbrev pub IsToldWithEdits : (name text : List ℕ) → Plan → CertifyError → Data → Type 0
IsToldWithEdits name text plan obstacle d = (results edits : Data)
    × IsObstacleAlone Json name text plan obstacle results × AreEditsTold plan obstacle edits
    × IsExplained status.Fault results edits d

-- ---- a plan alone

-- the value answers with what comes first of what rules certificates of the plan out
abbrev pub IsObstacleExplained : (name text : List ℕ) → Plan → Data → Type 0
IsObstacleExplained name text plan d = (obstacle : CertifyError) × NamesObstacle plan obstacle
    × (obstacle ≢ error.OutOfMemory) × HasNoCertificate plan × IsToldWithEdits name text plan obstacle d

-- the value answers on the plan, which stands in the text of this name, in a run that ends so: as `certify` ends of it
abbrev pub IsExplainedSaid : (name text : List ℕ) → Plan → Status → Data → Type 0
IsExplainedSaid name text plan ended d = ((ended ≡ status.Yes) × (certificate : Certificate)
    × Accepts plan certificate × IsExact plan certificate × IsSound d)
    ⊎ ((ended ≡ status.Fault) × IsObstacleExplained name text plan d)

-- ---- a plan with a certificate

-- the value answers with a fault of the certificate where the plan meets the rule, and with what explains the plan
-- alone
abbrev pub IsCertificateTold : (name text : List ℕ) → Plan → CertifyError → Data → Type 0
IsCertificateTold name text plan fault d = (results alone : Data) × (ended : Status)
    × IsObstacleAlone Json name text plan fault results
    × IsExplainedSaid name text plan ended alone × IsExplained status.Fault results empty_data d
    × Has (codes "plan") alone d

-- the value answers with a fault of the plan, which has this cause, or of the certificate, where it has none in the
-- plan
abbrev pub IsFaultTold : (name text : List ℕ) → Plan → Fault → Option Cause → Data → Type 0
IsFaultTold name text plan fault (Some cause) d = IsToldWithEdits name text plan (error.Fault fault) d
IsFaultTold name text plan fault None d = IsCertificateTold name text plan (error.Fault fault) d

-- the value explains this fault of the plan and its certificate
abbrev pub IsFaultExplained : (name text : List ℕ) → Plan → Fault → Data → Type 0
IsFaultExplained name text plan fault d =
    (cause : Option Cause) × IsCauseAt plan (site_of fault) cause × IsFaultTold name text plan fault cause d
