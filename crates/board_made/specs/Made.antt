-- What is answered of a board.
use Rattle.std.specs.Prelude.{◌≡◌, ℕ, List, ◌++◌, codes, string_bytes}
use Rattle.toml.specs.Data.{Data}
use Rattle.board.specs.declared.board.RecordFile.{RecordFile}
use Rattle.plan_values.{specs.declared.plan.Plan.{Plan}, specs.declared.certificate.Certificate.{Certificate}, specs.CertificateValues.{certificate_value}, specs.PlanValues.{node_names, plan_value}}
use Rattle.net_plan.{specs.CertificateJson.{certificate_text}, specs.CertificateText.{IsCertificateOf}, specs.PlanText.{IsPlanOf}, specs.Texts.{IsJsonTextOf}}
use Rattle.net_rules.specs.Certificates.{IsExact}
use Rattle.board_values.specs.Said.{IsTomlOf}
use Rattle.board_kept.specs.Made.{IsFitFor}
use Rattle.board_made.{specs.Reasons.{IsReason}, specs.declared.answer.BoardAnswer.{BoardAnswer}, specs.declared.answer.BoardAnswer.TheVariants.{Made, NoPlan, Unread}, specs.declared.answer.MadePlan.{MadePlan}}

-- The text is that of the plan's certificate: it gives each level, place and rank as the plan has them, and read for
-- the plan the text stands for it.
pub record IsCertificateText (plan : Plan) (certificate : Certificate) (text : List ℕ) : Type 0 where
  pub exact : IsExact plan certificate
  pub written : text ≡ certificate_text (node_names (plan_value plan).nodes) (certificate_value certificate)
  pub reads_back : IsJsonTextOf (IsCertificateOf (plan_value plan)) text (certificate_value certificate)

-- One text reads as a plan, and the other is that of its certificate, with which the plan is fit for the board.
pub record IsFitText (files : List RecordFile) (board : Data) (text certified : List ℕ) : Type 0 where
  pub plan : Plan
  pub certificate : Certificate
  pub reads : IsJsonTextOf IsPlanOf text (plan_value plan)
  pub written : IsCertificateText plan certificate certified
  pub fit : IsFitFor files board plan certificate

-- a line that says why a board can't be read; nothing more is promised of it
abbrev pub IsUnreadLine : List ℕ → Type 0
IsUnreadLine text = (words : List ℕ) × (text ≡ codes "unreadable board: " ++ (words ++ codes "\n"))

-- the text of a plan that was made reads as its value
abbrev pub ReadsBack : MadePlan → Type 0
ReadsBack made = IsJsonTextOf IsPlanOf (string_bytes made.plan) (plan_value made.value)

-- what is answered of a board that was read
abbrev pub IsAnswerFor : List RecordFile → Data → BoardAnswer → Type 0
IsAnswerFor files board (Made made) =
    IsFitText files board (string_bytes made.plan) (string_bytes made.certificate) × ReadsBack made
IsAnswerFor files board (NoPlan reason) = IsReason files board (string_bytes reason)
IsAnswerFor files board (Unread line) = IsUnreadLine (string_bytes line)

-- The one text is a TOML document; of what stands in it, and of the files that its records name, the others are a plan
-- that is fit for it, and the certificate.
pub record IsMadeOf (files : List RecordFile) (board_text text certified : List ℕ) : Type 0 where
  pub board : Data
  pub toml : IsTomlOf board_text board
  pub fit : IsFitText files board text certified

-- The one text is a TOML document, and the other says why no plan is made of what stands in it.
pub record IsUnmadeOf (files : List RecordFile) (board_text text : List ℕ) : Type 0 where
  pub board : Data
  pub toml : IsTomlOf board_text board
  pub reason : IsReason files board text

-- what is answered of a text, so of one that is no TOML document a line that says why it can't be read
abbrev pub IsAnswerTo : List RecordFile → List ℕ → BoardAnswer → Type 0
IsAnswerTo files board_text (Made made) =
    IsMadeOf files board_text (string_bytes made.plan) (string_bytes made.certificate) × ReadsBack made
IsAnswerTo files board_text (NoPlan reason) = IsUnmadeOf files board_text (string_bytes reason)
IsAnswerTo files board_text (Unread line) = IsUnreadLine (string_bytes line)
