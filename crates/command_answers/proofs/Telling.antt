-- Why an input is not read, by the reader's error, and what a printed fault tells.
use Rattle.std.proofs.Common.{ℕ, List, Option}
use Rattle.plan_values.{specs.declared.plan.Plan.{Plan}, specs.PlanValues.{plan_value}}
use Rattle.net_plan.{specs.declared.error.PlanError.{PlanError}, specs.Stream.{HasFailed}, specs.TextFaults.{error_count}, specs.Unread.{GaveNoCertificate}}
use Rattle.command_answers.{specs.declared.refused.Input.{Input}, specs.declared.refused.Refused.{Refused}, specs.Answers.{Stream, BreaksOff, GaveNothing, IsCertificateUnread}, specs.Statuses.{refused_at}}
use Rattle.net_plan.specs.declared.error.PlanError.TheVariants as error
use Rattle.command_answers.specs.declared.refused.Input.TheVariants as input
use Rattle.command_answers.specs.declared.refused.Refused.TheVariants as refused

-- of a refusal that an error leads to, what holds of no memory and of each cause of an unreadable input
pub refusal_at : (Is : Refused → Type 0) (GaveNone : Option (List ℕ) → Option (List ℕ) → PlanError → Type 0) (stream : Stream) (unread : Input) (e : PlanError)
    → GaveNone stream.before.bytes stream.after.bytes e → HasFailed stream.before stream.after (error_count e)
    → Is refused.NoMemory → ((cause : PlanError) → GaveNothing GaveNone stream cause → Is (refused.Unreadable unread cause)) → Is (refused_at unread e)
refusal_at Is GaveNone stream unread error.OutOfMemory gave counted memory is = memory
refusal_at Is GaveNone stream unread error.Device gave counted memory is = is error.Device counted
refusal_at Is GaveNone stream unread error.NotJson gave counted memory is = is error.NotJson gave
refusal_at Is GaveNone stream unread error.WrongKind gave counted memory is = is error.WrongKind gave
refusal_at Is GaveNone stream unread error.MissingKey gave counted memory is = is error.MissingKey gave
refusal_at Is GaveNone stream unread error.UnknownKey gave counted memory is = is error.UnknownKey gave
refusal_at Is GaveNone stream unread error.OutOfRange gave counted memory is = is error.OutOfRange gave
refusal_at Is GaveNone stream unread error.UnknownName gave counted memory is = is error.UnknownName gave
refusal_at Is GaveNone stream unread error.BadHex gave counted memory is = is error.BadHex gave
refusal_at Is GaveNone stream unread error.OverLimit gave counted memory is = is error.OverLimit gave
refusal_at Is GaveNone stream unread error.Doubled gave counted memory is = is error.Doubled gave

-- of a plan's certificate, so that the refusal has its cause
pub no_certificate : (e : PlanError) (p : Plan) (certificates : Stream) → GaveNoCertificate (plan_value p) certificates.before.bytes certificates.after.bytes e
    → HasFailed certificates.before certificates.after (error_count e) → IsCertificateUnread (refused_at input.Certificate e) p certificates
no_certificate e p certificates gave counted =
    refusal_at (λ why. IsCertificateUnread why p certificates) (GaveNoCertificate (plan_value p)) certificates input.Certificate e gave counted tt
    (λ cause nothing. nothing)

-- an output that failed after a beginning of one text failed after a beginning of any answer that the text is
pub breaks_off_also : (P Q : List ℕ → Type 0) (output : Stream) → ((text : List ℕ) → P text → Q text) → BreaksOff P output → BreaksOff Q output
breaks_off_also P Q output also broken =
    record { text = broken.text; answer = also broken.text broken.answer; fails = broken.fails; beginning = broken.beginning }
