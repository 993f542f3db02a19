-- What answers on a plan and a certificate.
use Rattle.std.{proofs.Common.{◌≡◌, ℕ, List, Result, Ok, Err, sym, subst}, specs.Prelude.{IfOk, IfErr}}
use Rattle.net_check.{specs.declared.check_error.CheckError.{CheckError}, specs.Errors.{NamesFirstFault}}
use Rattle.plan_values.{specs.declared.certificate.Certificate.{Certificate}, specs.declared.plan.Plan.{Plan}}
use Rattle.command_answers.{specs.Answers.{IsErrorText, IsFaultText}, specs.declared.refused.Refused.{Refused}, specs.declared.bytes_answer.BytesAnswer.{BytesAnswer}}
use Rattle.command_questions.specs.declared.exports.Export.{Export}
use Rattle.export_commands.specs.Exporting.{AnswersAt, AnswersExportOn, IsSubject, IsUnexportedOn}
use Rattle.plan_exports.specs.declared.links.Link.{Link}
use Rattle.net_check.specs.declared.check_error.CheckError.TheVariants as check_error
use Rattle.command_answers.specs.declared.refused.Refused.TheVariants as refused

-- the text of an error of `check` is that of the first fault
pub first_told : (plan : Plan) (cert : Certificate) (error : CheckError) (text : List ℕ) → NamesFirstFault plan cert error → IsErrorText plan error text → IsFaultText plan cert text
first_told plan cert (check_error.Fault fault) text first told = (fault, first, told)
first_told plan cert check_error.OutOfMemory text first told = absurd told

module _ (export : Export) (links : List Link) (plan : Plan) (cert : Certificate) where
  pub answered_on : (n : ℕ) → IsSubject export links plan n → (result : Result BytesAnswer Refused)
      → IfOk result (λ (a : BytesAnswer). AnswersAt export.kind links plan cert n a.status a.bytes.items)
      → IfOk result (λ (a : BytesAnswer). AnswersExportOn export links plan cert a.status a.bytes.items)
  answered_on n subject (Ok a) answers = (n, subject, answers)
  answered_on n subject (Err why) answers = tt

  pub unanswered_on : (result : Result BytesAnswer Refused) → IfErr result (λ why. why ≡ refused.NoMemory) → IfErr result (IsUnexportedOn export links plan)
  unanswered_on (Ok a) lacks = tt
  unanswered_on (Err why) lacks = subst (IsUnexportedOn export links plan) (sym lacks) tt
