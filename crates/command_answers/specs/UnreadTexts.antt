-- What is explained where a file can't be read.
use Rattle.std.specs.Prelude.{◌≡◌, ◌⊎◌, ℕ, List, ◌++◌, codes, Option, string_bytes}
use Rattle.net_plan.{specs.declared.error.PlanError.{PlanError}, specs.Stream.{TakesMoreThan}, specs.Texts.{Gave}, specs.Unread.{GaveNoPlan, GaveNoCertificate, GaveNoEvents}, specs.Limits.{most_text_bytes}}
use Rattle.plan_values.{specs.declared.plan.Plan.{Plan}, specs.PlanValues.{plan_value, node_names}}
use Rattle.net_pointers.{specs.Asks.{plan_text, certificate_text, events_text}, specs.TextTroubles.{cause_of}}
use Rattle.command_answers.{specs.declared.inputs.Unread.{Unread}, specs.declared.refused.Input.{Input}, specs.Answers.{Stream, Fails, GaveNothing}, specs.Statuses.{role_of}}
use Rattle.reading_texts.{specs.ReadingLines.{unread_line}, specs.TroubleLines.{IsTextTold}}
use Rattle.net_plan.specs.declared.error.PlanError.TheVariants as error_of
use Rattle.command_answers.specs.declared.inputs.Unread.TheVariants as why
use Rattle.command_answers.specs.declared.refused.Input.TheVariants as input

abbrev pub failed_line : List ℕ
failed_line = codes "The file can't be opened or read.\n"

abbrev pub long_line : List ℕ
long_line = codes "The text is longer than 16777216 bytes.\n"

-- what is written of why a source gave nothing to read for an input
abbrev pub IsWrittenOf : Input → Unread → List ℕ → Type 0
IsWrittenOf role why.NoMemory text = ⊥
IsWrittenOf role why.Failed text = text ≡ unread_line (role_of role) error_of.Device ++ failed_line
IsWrittenOf role why.TooLong text = text ≡ unread_line (role_of role) error_of.OverLimit ++ long_line
IsWrittenOf role (why.Text bytes fault) text =
    text ≡ unread_line (role_of role) (cause_of fault.trouble) ++ string_bytes fault.lines

-- the line tells of a source that gave no text to its end: it failed, or gave too many bytes
abbrev pub IsNoTextTold : Stream → PlanError → List ℕ → Type 0
IsNoTextTold source error_of.Device line = Fails source × (line ≡ failed_line)
IsNoTextTold source error_of.OverLimit line =
    TakesMoreThan most_text_bytes source.before.bytes source.after.bytes × (line ≡ long_line)
IsNoTextTold source _ line = ⊥

-- the lines tell of a source that gave nothing for this cause: of the text that it gave, or that it gave none
abbrev pub IsUnreadTold : (List ℕ → List ℕ → Type 0) → Stream → PlanError → List ℕ → Type 0
IsUnreadTold IsTold source cause lines =
    IsNoTextTold source cause lines
    ⊎ Gave most_text_bytes source.before.bytes source.after.bytes (λ bytes. IsTold bytes lines)

-- The text is the line by which `certify` and `check` tell why a file of this role can't be read, and then the lines
-- that tell where its text has its first fault.
pub record IsTextOfUnread (role : Input) (GaveNone : Option (List ℕ) → Option (List ℕ) → PlanError → Type 0)
    (IsTold : List ℕ → List ℕ → Type 0) (source : Stream) (text : List ℕ) : Type 0 where
  pub cause : PlanError
  pub lines : List ℕ
  pub given : GaveNothing GaveNone source cause
  pub told : IsUnreadTold IsTold source cause lines
  pub written : text ≡ unread_line (role_of role) cause ++ lines

-- the text tells why the plan can't be read, and where its text has its first fault
abbrev pub IsUnreadText : Stream → List ℕ → Type 0
IsUnreadText plans text = IsTextOfUnread input.Plan GaveNoPlan (IsTextTold plan_text) plans text

-- the same of the certificate of a plan
abbrev pub IsUnreadCertificateText : Plan → Stream → List ℕ → Type 0
IsUnreadCertificateText plan certificates text =
    IsTextOfUnread input.Certificate (GaveNoCertificate (plan_value plan))
    (IsTextTold (certificate_text (node_names (plan_value plan).nodes))) certificates text

-- the same of events at the nodes of a plan
abbrev pub IsUnreadEventsText : Plan → Stream → List ℕ → Type 0
IsUnreadEventsText plan happenings text =
    IsTextOfUnread input.Events (GaveNoEvents (plan_value plan))
    (IsTextTold (events_text (node_names (plan_value plan).nodes))) happenings text
