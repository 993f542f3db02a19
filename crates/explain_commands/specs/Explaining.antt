-- What `explain` prints, and what the end of it says.
use Rattle.std.{specs.Prelude.{◌≡◌, ◌≤◌, ◌⊎◌, ℕ, List, ◌++◌, codes, length, Option, Some, None}, specs.List.{All}}
use Rattle.net_rules.{specs.Certificates.{IsExact}, specs.Faults.{IsFirstFault, site_of}, specs.Rules.{Accepts}, specs.declared.certify_error.CertifyError.{CertifyError}, specs.declared.fault.Fault.{Fault}}
use Rattle.net_faults.{specs.declared.plan_fault.PlanFault.{PlanFault}, specs.PlanFaults.{AreAllFaults}}
use Rattle.net_explained.{specs.declared.cause.Cause.{Cause}, specs.declared.hops.MostHops.{MostHops}, specs.declared.trial.Tried.{Tried}, specs.Causes.{IsCauseAt}, specs.Obstacles.{IsTried}}
use Rattle.plan_values.{specs.declared.certificate.Certificate.{Certificate}, specs.declared.plan.Plan.{Plan}, specs.PlanValues.{plan_value}}
use Rattle.command_answers.{specs.declared.status.Status.{Status}, specs.Answers.{Stream, GavePlanText, GaveCertificate}, specs.Certifying.{IsRuledOutBy}, specs.Statuses.{yes_line}, specs.UnreadTexts.{IsUnreadText, IsUnreadCertificateText}}
use Rattle.plan_texts.specs.Lines.{fault_text}
use Rattle.explanation_texts.{specs.CertificateSubjects.{certificate_subjects}, specs.EditLines.{edits_text}, specs.Explanations.{told_subjects, IsObstacleTold}, specs.Pieces.{Tells}, specs.SummaryLines.{summary_text}}
use Rattle.fault_texts.{specs.FaultListLines.{more_text, no_certificate_text, remedy_text}, specs.Places.{IsPlaceTold, obstacle_pointer}}
use Rattle.net_rules.specs.declared.certify_error.CertifyError.TheVariants as error
use Rattle.command_answers.specs.declared.status.Status.TheVariants as status

-- ---- what rules certificates out

-- The lines are those of at most three edits of the plan that has this obstacle. Each was tried: the plan with just
-- this changed has a certificate, or the first of what rules certificates of it out comes later than the obstacle; and
-- this is said of it.
abbrev pub AreEditsTold : Plan → CertifyError → List ℕ → Type 0
AreEditsTold plan obstacle lines = (edits : List Tried) × All (IsTried (plan_value plan) obstacle) edits
    × (length edits ≤ 3) × (lines ≡ edits_text plan edits)

-- the text explains what rules certificates of the plan out, and then proposes edits
abbrev pub IsToldWithEdits : Plan → CertifyError → List ℕ → Type 0
IsToldWithEdits plan obstacle text = (lines : List ℕ) × (edits : List ℕ)
    × IsObstacleTold plan obstacle lines × AreEditsTold plan obstacle edits × (text ≡ lines ++ edits)

-- the line tells how many more faults than one `faults` lists of the plan, or of it and the certificate, and by which
-- words
abbrev pub AreMoreTold : Plan → Option Certificate → List ℕ → List ℕ → Type 0
AreMoreTold plan cert words line = (faults : List PlanFault) × AreAllFaults plan cert faults
    × (line ≡ more_text words (length faults))

-- The lines explain an obstacle of the plan: where it stands in the text of this name; why it is one, with edits; and
-- how many more faults there are.
pub record IsExplainedThere (name text : List ℕ) (plan : Plan) (obstacle : CertifyError)
    (lines : List ℕ) : Type 0 where
  pub place : List ℕ
  pub told : List ℕ
  pub more : List ℕ
  pub placed : IsPlaceTold name text (obstacle_pointer plan obstacle) place
  pub explained : IsToldWithEdits plan obstacle told
  pub others : AreMoreTold plan None name more
  pub written : lines ≡ place ++ (told ++ more)

-- The lines are that of what comes first, in the order of the rules, of what rules certificates of the plan out, and
-- what explains it.
pub record IsObstacleText (name text : List ℕ) (plan : Plan) (lines : List ℕ) : Type 0 where
  pub obstacle : CertifyError
  pub line : List ℕ
  pub rest : List ℕ
  pub ruled_out : IsRuledOutBy plan obstacle line
  pub explained : IsExplainedThere name text plan obstacle rest
  pub written : lines ≡ line ++ rest

-- the text says yes and sums the plan up, with hops between two nodes
abbrev pub IsSummedUp : Plan → List ℕ → Type 0
IsSummedUp plan text = (most : Option MostHops) × (text ≡ yes_line ++ summary_text plan most)

-- The exact certificate of the plan fits it, and the text says yes and sums the plan up.
pub record IsSoundText (plan : Plan) (text : List ℕ) : Type 0 where
  pub certificate : Certificate
  pub accepted : Accepts plan certificate
  pub exact : IsExact plan certificate
  pub written : IsSummedUp plan text

-- ---- a plan alone

-- a run that says so of the plan in the text of this name ends so: as `certify` ends of it
abbrev pub IsExplained : List ℕ → List ℕ → Plan → Status → List ℕ → Type 0
IsExplained name text plan status.Yes lines = IsSoundText plan lines
IsExplained name text plan status.Fault lines = IsObstacleText name text plan lines
IsExplained name text plan status.Unreadable lines = ⊥
IsExplained name text plan status.NoMemory lines = ⊥

-- the lines answer for the source of a plan, which has this name, in a run that ends so: they explain the plan that was
-- given, or why none was
abbrev pub ExplainsSo : List ℕ → Stream → Status → List ℕ → Type 0
ExplainsSo name plans ended lines =
    ((text : List ℕ) × (plan : Plan) × GavePlanText plans text plan × IsExplained name text plan ended lines)
    ⊎ ((ended ≡ status.Unreadable) × IsUnreadText plans lines)

-- ---- a plan with a certificate

-- that another certificate fits the plan, or what rules all of them out
abbrev pub IsRemedyTold : List ℕ → List ℕ → Plan → List ℕ → Type 0
IsRemedyTold name text plan lines = ((certificate : Certificate) × Accepts plan certificate × (lines ≡ remedy_text))
    ⊎ ((rest : List ℕ) × IsObstacleText name text plan rest × (lines ≡ no_certificate_text ++ rest))

-- what is told where the certificate is at fault and the plan meets the rule: what the certificate gives by which it
-- breaks the rule, and what helps
abbrev pub IsCertificateTold : List ℕ → List ℕ → Plan → Certificate → Fault → List ℕ → Type 0
IsCertificateTold name text plan certificate fault lines = (given : List ℕ) × (remedy : List ℕ)
    × Tells plan (certificate_subjects plan certificate fault) given × IsRemedyTold name text plan remedy
    × (lines ≡ given ++ remedy)

-- the text explains a fault of the plan by its cause, with edits that were tried
abbrev pub IsCauseTold : Plan → Fault → Cause → List ℕ → Type 0
IsCauseTold plan fault cause text = (lines : List ℕ) × (edits : List ℕ)
    × Tells plan (told_subjects plan fault (Some cause)) lines × AreEditsTold plan (error.Fault fault) edits
    × (text ≡ lines ++ edits)

-- the lines explain a fault of the plan, by its cause, or of the certificate, where it has none in the plan
abbrev pub IsFaultTold : List ℕ → List ℕ → Plan → Certificate → Fault → Option Cause → List ℕ → Type 0
IsFaultTold name text plan certificate fault (Some cause) lines = IsCauseTold plan fault cause lines
IsFaultTold name text plan certificate fault None lines = IsCertificateTold name text plan certificate fault lines

-- the words of a plan and its certificate
abbrev pub both_words : List ℕ → List ℕ → List ℕ
both_words name certified_by = name ++ (codes " " ++ certified_by)

-- The lines are that of the first fault of the plan and the certificate; where that stands in the text of the plan's
-- name; what explains it; and how many more faults there are, listed by both names.
pub record IsFaultExplained (name certified_by text : List ℕ) (plan : Plan) (certificate : Certificate)
    (lines : List ℕ) : Type 0 where
  pub fault : Fault
  pub cause : Option Cause
  pub place : List ℕ
  pub explained : List ℕ
  pub more : List ℕ
  pub first : IsFirstFault plan certificate (site_of fault)
  pub at_site : IsCauseAt plan (site_of fault) cause
  pub placed : IsPlaceTold name text (obstacle_pointer plan (error.Fault fault)) place
  pub told : IsFaultTold name text plan certificate fault cause explained
  pub others : AreMoreTold plan (Some certificate) (both_words name certified_by) more
  pub written : lines ≡ fault_text plan fault ++ (place ++ (explained ++ more))

-- every rule holds of the plan and the certificate, and the text says yes and sums the plan up
abbrev pub IsYesExplained : Plan → Certificate → List ℕ → Type 0
IsYesExplained plan certificate text = Accepts plan certificate × IsSummedUp plan text

-- a run that says so of the plan in this text and the certificate ends so: as `check` ends of them
abbrev pub IsBothExplained : List ℕ → List ℕ → List ℕ → Plan → Certificate → Status → List ℕ → Type 0
IsBothExplained name certified_by text plan certificate status.Yes lines = IsYesExplained plan certificate lines
IsBothExplained name certified_by text plan certificate status.Fault lines =
    IsFaultExplained name certified_by text plan certificate lines
IsBothExplained name certified_by text plan certificate status.Unreadable lines = ⊥
IsBothExplained name certified_by text plan certificate status.NoMemory lines = ⊥

-- a run that says so of the plan and the source of its certificate ends so
abbrev pub IsExplainedWith : List ℕ → List ℕ → List ℕ → Plan → Stream → Status → List ℕ → Type 0
IsExplainedWith name certified_by text plan certificates ended lines =
    ((certificate : Certificate) × GaveCertificate plan certificates certificate
    × IsBothExplained name certified_by text plan certificate ended lines)
    ⊎ ((ended ≡ status.Unreadable) × IsUnreadCertificateText plan certificates lines)

-- the lines answer for the sources of a plan and its certificate, which have these names, in a run that ends so: they
-- explain what was given, or why something was not
abbrev pub ExplainsWithSo : List ℕ → List ℕ → Stream → Stream → Status → List ℕ → Type 0
ExplainsWithSo name certified_by plans certificates ended lines =
    ((text : List ℕ) × (plan : Plan) × GavePlanText plans text plan
    × IsExplainedWith name certified_by text plan certificates ended lines)
    ⊎ ((ended ≡ status.Unreadable) × IsUnreadText plans lines)
