-- The files of a roll-out's steps.
use Rattle.std.{specs.Prelude.{◌≡◌, ◌≤◌, ℕ, suc, ◌+◌, ◌-◌, List, [], ◌∷◌, ◌++◌, codes, length, take, string_bytes, Some, slice_get}, specs.Fmt.{decimal}, specs.List.{repeat}}
use Rattle.plan_values.{specs.declared.plan.Plan.{Plan}, specs.declared.certificate.Certificate.{Certificate}, specs.CertificateValues.{certificate_value}, specs.PlanValues.{node_names, plan_value}}
use Rattle.net_plan.{specs.CertificateJson.{certificate_text}, specs.CertificateText.{IsCertificateOf}, specs.PlanText.{IsPlanOf}, specs.Texts.{IsJsonTextOf}, specs.Limits.{most_text_bytes}}
use Rattle.net_rules.{specs.Certificates.{IsExact}, specs.Rules.{Accepts}}
use Rattle.net_rollout.{specs.declared.change.Step.{Step}, specs.declared.change.Rollout.{Rollout}, specs.Steps.{IsCertified, last_plan}}
use Rattle.step_files.specs.declared.texts.TextFile.{TextFile}
use Rattle.net_rollout.specs.declared.change.Rollout.TheVariants as way

-- a file: where it stands, and its bytes
pub record FileValue : Type 0 where
  pub path : List ℕ
  pub text : List ℕ

abbrev pub file_value : TextFile → FileValue
file_value file = record { path = string_bytes file.path; text = string_bytes file.text }

-- as many zeros as the number has fewer digits than the count
abbrev pub leading_zeros : (count number : ℕ) → List ℕ
leading_zeros count number = repeat (length (decimal count) - length (decimal number)) (codes "0")

-- where a file of one of so many steps stands in the folder
abbrev pub step_path : (folder : List ℕ) (count number : ℕ) (ending : List ℕ) → List ℕ
step_path folder count number ending =
    folder ++ (codes "/step-" ++ (leading_zeros count number ++ (decimal number ++ ending)))

-- the text reads as the plan, and isn't longer than a file may be
abbrev pub IsPlanFile : Plan → List ℕ → Type 0
IsPlanFile plan text = IsJsonTextOf IsPlanOf text (plan_value plan) × (length text ≤ most_text_bytes)

-- The text is that of the certificate, and reads as it for the plan.
pub record IsTextOfCertificate (plan : Plan) (certificate : Certificate) (text : List ℕ) : Type 0 where
  pub written : text ≡ certificate_text (node_names (plan_value plan).nodes) (certificate_value certificate)
  pub reads : IsJsonTextOf (IsCertificateOf (plan_value plan)) text (certificate_value certificate)
  pub short : length text ≤ 2097152

-- the text is that of the plan's exact certificate, with which the plan meets every rule
abbrev pub IsCertificateFile : Plan → List ℕ → Type 0
IsCertificateFile plan text = (certificate : Certificate) × Accepts plan certificate × IsExact plan certificate
    × IsTextOfCertificate plan certificate text

-- the text is that of the certificate of the move from one plan to the other, by which the move is accepted
abbrev pub IsMoveFile : Plan → Plan → Certificate → List ℕ → Type 0
IsMoveFile before after move text = IsCertified before after move × IsTextOfCertificate before move text

-- The files of one of so many steps: the plan after it, the plan's certificate, and the certificate of the move to it.
pub record AreFilesOfStep (folder : List ℕ) (count number : ℕ) (before after : Plan) (move : Certificate)
    (files : List FileValue) : Type 0 where
  pub plan : List ℕ
  pub certificate : List ℕ
  pub moving : List ℕ
  pub reads : IsPlanFile after plan
  pub certified : IsCertificateFile after certificate
  pub moves : IsMoveFile before after move moving
  pub written : files ≡ record { path = step_path folder count number (codes ".json"); text = plan }
      ∷ record { path = step_path folder count number (codes ".cert.json"); text = certificate }
      ∷ record { path = step_path folder count number (codes ".move.json"); text = moving } ∷ []

-- the files of steps that begin at this plan and with this number, one step after the other
abbrev pub AreFilesAlong : List ℕ → (count number : ℕ) → Plan → List Step → List FileValue → Type 0
AreFilesAlong folder count number before [] files = files ≡ []
AreFilesAlong folder count number before (step ∷ steps) files = (own : List FileValue) × (rest : List FileValue)
    × AreFilesOfStep folder count number before step.after step.certificate own
    × AreFilesAlong folder count (suc number) step.after steps rest × (files ≡ own ++ rest)

-- the files of the step of this index, of steps that begin at this plan
abbrev pub AreFilesAt : List ℕ → (count : ℕ) → Plan → List Step → ℕ → List FileValue → Type 0
AreFilesAt folder count before steps index files = (step : Step) × (slice_get steps index ≡ Some step)
    × AreFilesOfStep folder count (index + 1) (last_plan before (take index steps)) step.after step.certificate files

-- The files of all steps: where one certificate serves those of one step; where there are several those of each and
-- of the last, which leads to the new plan. There are none where the new plan isn't reached.
abbrev pub AreFilesOf : List ℕ → Plan → Plan → Rollout → List FileValue → Type 0
AreFilesOf folder before new (way.AnyOrder move) files = AreFilesOfStep folder 1 1 before new move files
AreFilesOf folder before new (way.Steps steps last) files = (firsts : List FileValue) × (own : List FileValue)
    × AreFilesAlong folder (length steps.items + 1) 1 before steps.items firsts
    × AreFilesOfStep folder (length steps.items + 1) (length steps.items + 1) (last_plan before steps.items) new
    last.certificate own
    × (files ≡ firsts ++ own)
AreFilesOf folder before new (way.Stuck steps obstacle) files = files ≡ []
AreFilesOf folder before new (way.Unfit obstacle) files = files ≡ []
