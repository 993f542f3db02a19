-- What the end of a run of the program says of the bytes that it read and wrote.
use Rattle.std.{specs.Prelude.{◌≡◌, ℕ, List, Option, ◌⊎◌}, specs.Io.KnownBytes.{Appends}}
use Rattle.net_check.specs.declared.check_error.CheckError.{CheckError}
use Rattle.net_rules.{specs.declared.fault.Fault.{Fault}, specs.Faults.{IsFirstFault, site_of}}
use Rattle.plan_values.{specs.declared.plan.Plan.{Plan}, specs.declared.certificate.Certificate.{Certificate}, specs.CertificateValues.{certificate_value}, specs.PlanValues.{plan_value}}
use Rattle.net_plan.{specs.declared.error.PlanError.{PlanError}, specs.CertificateText.{IsCertificateOf}, specs.PlanText.{IsPlanOf}, specs.Stream.{Account, HasFailed, AppendsBeginning}, specs.Unread.{GaveNoPlan, GaveNoCertificate}, specs.Texts.{Gave, IsJsonTextOf}, specs.Limits.{most_text_bytes}}
use Rattle.command_answers.{specs.declared.refused.Input.{Input}, specs.declared.refused.Refused.{Refused}, specs.declared.status.Status.{Status}, specs.Statuses.{status_of, refusal_text, IsReportedFor, HasCause}}
use Rattle.plan_texts.specs.Lines.{fault_text}
use Rattle.net_check.specs.declared.check_error.CheckError.TheVariants as check_error
use Rattle.net_plan.specs.declared.error.PlanError.TheVariants as error
use Rattle.command_answers.specs.declared.refused.Input.TheVariants as input
use Rattle.command_answers.specs.declared.status.Status.TheVariants as status

-- the accounts of a source or a sink before a call and after it
pub record Stream : Type 0 where
  pub before : Account
  pub after : Account

abbrev pub stream : {S : Type 0} → (S → Account) → S → S → Stream
stream account old new = record { before = account old; after = account new }

-- the stream failed once
abbrev pub Fails : Stream → Type 0
Fails stream = HasFailed stream.before stream.after 1

-- The output failed, and what it took before is a beginning of an answer.
pub record BreaksOff (IsAnswer : List ℕ → Type 0) (output : Stream) : Type 0 where
  pub text : List ℕ
  pub answer : IsAnswer text
  pub fails : Fails output
  pub beginning : AppendsBeginning output.before.bytes output.after.bytes text

-- a refusal is reported: its line was written, whole, or a beginning of it where the stream failed
abbrev pub IsReported : Refused → Stream → Type 0
IsReported why errors = Appends errors.before.bytes errors.after.bytes (refusal_text why)
    ⊎ (Fails errors × AppendsBeginning errors.before.bytes errors.after.bytes (refusal_text why))

-- A run ends for a refusal: this refusal, or want of memory for its line, is reported, and the status is that of what
-- is reported.
pub record Refuses (why : Refused) (ended : Status) (errors : Stream) : Type 0 where
  pub reported : Refused
  pub for_it : IsReportedFor why reported
  pub ends : ended ≡ status_of reported
  pub line : IsReported reported errors

-- A refusal with the status of what can't be read has its cause and is reported.
abbrev pub SaysWhy : (Refused → Type 0) → Stream → Type 0
SaysWhy IsWhy errors = (why : Refused) × (status_of why ≡ status.Unreadable) × IsWhy why × IsReported why errors

-- the source gave the text of the plan
abbrev pub GavePlan : Stream → Plan → Type 0
GavePlan stream plan =
    Gave most_text_bytes stream.before.bytes stream.after.bytes (λ text. IsJsonTextOf IsPlanOf text (plan_value plan))

-- the source gave this text, which is that of the plan
abbrev pub GavePlanText : Stream → List ℕ → Plan → Type 0
GavePlanText stream text plan = Gave most_text_bytes stream.before.bytes stream.after.bytes
    (λ bytes. (bytes ≡ text) × IsJsonTextOf IsPlanOf bytes (plan_value plan))

-- the source gave the text of no plan
abbrev pub IsWithoutPlan : Stream → Type 0
IsWithoutPlan stream = (plan : Plan) → ¬ GavePlan stream plan

-- the source gave the text of the plan's certificate
abbrev pub GaveCertificate : Plan → Stream → Certificate → Type 0
GaveCertificate plan stream certificate =
    Gave most_text_bytes stream.before.bytes stream.after.bytes
    (λ text. IsJsonTextOf (IsCertificateOf (plan_value plan)) text (certificate_value certificate))

-- Why a source gave nothing, by the error: it failed, it gave too many bytes, it gave no JSON, or JSON at whose first
-- fault the reader stops. Want of memory is no such cause.
abbrev pub GaveNothing : (Option (List ℕ) → Option (List ℕ) → PlanError → Type 0) → Stream → PlanError → Type 0
GaveNothing GaveNone stream error.Device = Fails stream
GaveNothing GaveNone stream error.OutOfMemory = ⊥
GaveNothing GaveNone stream e = GaveNone stream.before.bytes stream.after.bytes e

-- one source gave the plan, the other the certificate
pub record AreGiven (plans certificates : Stream) (plan : Plan) (certificate : Certificate) : Type 0 where
  pub plan_text : GavePlan plans plan
  pub certificate_text : GaveCertificate plan certificates certificate

-- the same, where the text of the plan is this one
pub record AreTextsGiven (plans certificates : Stream) (text : List ℕ) (plan : Plan)
    (certificate : Certificate) : Type 0 where
  pub plan_text : GavePlanText plans text plan
  pub certificate_text : GaveCertificate plan certificates certificate

-- the sources gave no plan with a certificate of it
abbrev pub AreWithoutCertificate : Stream → Stream → Type 0
AreWithoutCertificate plans certificates =
    (plan : Plan) (certificate : Certificate) → ¬ AreGiven plans certificates plan certificate

-- the text is the line of the first fault of the plan and the certificate
abbrev pub IsFaultText : Plan → Certificate → List ℕ → Type 0
IsFaultText plan certificate text =
    (fault : Fault) × IsFirstFault plan certificate (site_of fault) × (text ≡ fault_text plan fault)

-- the text is the line of the fault that an error of `check` names
abbrev pub IsErrorText : Plan → CheckError → List ℕ → Type 0
IsErrorText plan (check_error.Fault fault) text = text ≡ fault_text plan fault
IsErrorText plan check_error.OutOfMemory text = ⊥

-- why an input, which is the plan, can't be read
abbrev pub IsUnreadPlan : Input → PlanError → Stream → Type 0
IsUnreadPlan input.Plan cause plans = GaveNothing GaveNoPlan plans cause
IsUnreadPlan input.Certificate cause plans = ⊥
IsUnreadPlan input.Events cause plans = ⊥
IsUnreadPlan input.Lines cause plans = ⊥

-- why the plan was not read
abbrev pub IsPlanUnread : Refused → Stream → Type 0
IsPlanUnread why plans = HasCause (λ unread cause. IsUnreadPlan unread cause plans) ⊥ ⊥ ⊥ why

-- why an input, which is the certificate of the plan, can't be read
abbrev pub IsUnreadCertificate : Plan → Input → PlanError → Stream → Type 0
IsUnreadCertificate plan input.Plan cause certificates = ⊥
IsUnreadCertificate plan input.Certificate cause certificates =
    GaveNothing (GaveNoCertificate (plan_value plan)) certificates cause
IsUnreadCertificate plan input.Events cause certificates = ⊥
IsUnreadCertificate plan input.Lines cause certificates = ⊥

-- why the certificate of the plan was not read
abbrev pub IsCertificateUnread : Refused → Plan → Stream → Type 0
IsCertificateUnread why plan certificates =
    HasCause (λ unread cause. IsUnreadCertificate plan unread cause certificates) ⊥ ⊥ ⊥ why

-- why the inputs were not read; the certificate is read only where the plan was given
abbrev pub AreUnread : Refused → Stream → Stream → Type 0
AreUnread why plans certificates = IsPlanUnread why plans
    ⊎ ((plan : Plan) × GavePlan plans plan × IsCertificateUnread why plan certificates)
