-- What is explained of a source that gave no plan, no certificate or no events.
use Rattle.std.{proofs.Common.{◌≡◌, ◌≢◌, ◌≤◌, List, length, ℕ, Result, Err, string_bytes, refl, inl, inr}, specs.Io.KnownBytes.{Consumes, IsAtEnd}, specs.Cow.{cow_str_bytes}}
use Rattle.serde_json.specs.Data.{Data}
use Rattle.net_plan.{specs.CertificateReading.{certificate}, specs.CertificateText.{IsCertificateOf}, specs.EventReading.{events}, specs.EventText.{AreEventsOf}, specs.PlanReading.{plan}, specs.PlanText.{IsPlanOf}, specs.declared.error.PlanError.{PlanError}, specs.declared.error.ValueFault.{ValueFault}, specs.Refusals.{IsRefused, GaveNone}, proofs.Refusing.{answer_given}}
use Rattle.plan_values.{specs.declared.plan.Plan.{Plan}, specs.PlanValues.{plan_value, node_names}}
use Rattle.net_pointers.{specs.Asks.{Sort, plan_text, certificate_text, events_text}, specs.TextTroubles.{cause_of}}
use Rattle.command_answers.{specs.declared.answer.Answer.{Answer}, specs.declared.inputs.Unread.{Unread}, specs.declared.inputs.Unread.TheVariants.{NoMemory, Failed, TooLong, Text}, specs.declared.refused.Input.{Input}, specs.Answers.{Stream, GaveNothing}, specs.UnreadInputs.{IsUnreadBy, IsNoPlanBy, IsNoCertificateBy, AreNoEventsBy}, specs.UnreadTexts.{IsTextOfUnread, IsWrittenOf, IsUnreadText, IsUnreadCertificateText, IsUnreadEventsText, failed_line, long_line}}
use Rattle.reading_texts.specs.TroubleLines.{IsTextTold}
use Rattle.net_plan.specs.declared.error.PlanError.TheVariants as error_of
use Rattle.command_answers.specs.declared.refused.Input.TheVariants as input
use Rattle.command_answers.specs.declared.status.Status.TheVariants as status

module _ {A : Type 0} (said : Data → Result A ValueFault) (R : Data → A → Type 0) where
  -- a text that is refused, as a cause
  text_given : (source : Stream) (bytes : List ℕ) (cause : PlanError) → GaveNone said R source.before.bytes source.after.bytes cause → IsRefused said R bytes cause
      → cause ≢ error_of.OutOfMemory → GaveNothing (λ old new e. GaveNone said R old new e) source cause
  text_given source bytes error_of.NotJson none refused known = none
  text_given source bytes error_of.WrongKind none refused known = none
  text_given source bytes error_of.MissingKey none refused known = none
  text_given source bytes error_of.UnknownKey none refused known = none
  text_given source bytes error_of.OutOfRange none refused known = none
  text_given source bytes error_of.UnknownName none refused known = none
  text_given source bytes error_of.BadHex none refused known = none
  text_given source bytes error_of.OverLimit none refused known = none
  text_given source bytes error_of.Doubled none refused known = none
  text_given source bytes error_of.Device none refused known = absurd refused
  text_given source bytes error_of.OutOfMemory none refused known = absurd (known refl)

  -- the text that a source gave is refused, and this is a cause
  nothing_given : (source : Stream) (b : List ℕ) (cause : PlanError) → Consumes source.before.bytes source.after.bytes b → IsAtEnd source.after.bytes → length b ≤ 16777216
      → IsRefused said R b cause → cause ≢ error_of.OutOfMemory → GaveNothing (λ old new e. GaveNone said R old new e) source cause
  nothing_given source b cause took end few refused known =
      let unread : Result (List ℕ) PlanError = Err cause in
      let none : GaveNone said R source.before.bytes source.after.bytes cause = answer_given said R source.before.bytes source.after.bytes b b unread took end few refl refused in
      text_given source b cause none refused known

-- the answer tells why a source gave nothing to read for an input
abbrev pub IsUnreadAnswer : Input → Unread → Answer → Type 0
IsUnreadAnswer role u a = (a.status ≡ status.Unreadable) × IsWrittenOf role u (cow_str_bytes a.text)

told : {A : Type 0} (s : Sort) (said : Data → Result A ValueFault) (R : Data → A → Type 0) (role : Input) (source : Stream) (u : Unread) (text : List ℕ)
    → IsUnreadBy s said R source u → IsWrittenOf role u text → IsTextOfUnread role (λ old new e. GaveNone said R old new e) (IsTextTold s) source text
told s said R role source NoMemory text by h = absurd h
told s said R role source Failed text by h = record { cause = error_of.Device; lines = failed_line; given = by; told = inl (by, refl); written = h }
told s said R role source TooLong text by h = record { cause = error_of.OverLimit; lines = long_line; given = inl by; told = inl (by, refl); written = h }
told s said R role source (Text bytes fault) text by h = record {
  cause = cause_of fault.trouble;
  lines = string_bytes fault.lines;
  given = nothing_given said R source by.0 (cause_of fault.trouble) by.1 by.2 by.3 by.4.1.1 by.4.1.2;
  told = inr (by.0, by.1, by.2, by.3, (fault.trouble, by.4.1.0.0, by.4.1.0.1));
  written = h;
}

pub plan_told : (plans : Stream) (u : Unread) (text : List ℕ) → IsNoPlanBy plans u → IsWrittenOf input.Plan u text → IsUnreadText plans text
plan_told plans u text by h = told plan_text plan IsPlanOf input.Plan plans u text by h

pub certificate_told : (p : Plan) (certificates : Stream) (u : Unread) (text : List ℕ) → IsNoCertificateBy p certificates u → IsWrittenOf input.Certificate u text → IsUnreadCertificateText p certificates text
certificate_told p certificates u text by h =
    let nodes = node_names (plan_value p).nodes in
    told (certificate_text nodes) (certificate nodes) (IsCertificateOf (plan_value p)) input.Certificate certificates u text by h

pub events_told : (p : Plan) (happenings : Stream) (u : Unread) (text : List ℕ) → AreNoEventsBy p happenings u → IsWrittenOf input.Events u text → IsUnreadEventsText p happenings text
events_told p happenings u text by h =
    let nodes = node_names (plan_value p).nodes in
    told (events_text nodes) (events nodes) (AreEventsOf (plan_value p)) input.Events happenings u text by h
