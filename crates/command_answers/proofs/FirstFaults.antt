-- What is told of the first fault.
use Rattle.std.{proofs.Common.{◌≡◌, Result, Ok, Err}, specs.Prelude.{IfOk}, specs.Cow.{cow_str_bytes}}
use Rattle.plan_values.{specs.declared.plan.Plan.{Plan}, specs.declared.certificate.Certificate.{Certificate}}
use Rattle.net_check.{specs.declared.check_error.CheckError.{CheckError}, specs.Errors.{NamesFirstFault}}
use Rattle.net_rules.specs.declared.fault.Fault.{Fault}
use Rattle.command_answers.{specs.declared.answer.Answer.{Answer}, specs.declared.refused.Refused.{Refused}, specs.Answers.{IsErrorText, IsFaultText}}
use Rattle.net_check.specs.declared.check_error.CheckError.TheVariants as check_error
use Rattle.command_answers.specs.declared.status.Status.TheVariants as status

-- the line of an error of `check` is that of the first fault
pub first_told : (plan : Plan) (cert : Certificate) (error : CheckError) (result : Result Answer Refused) → NamesFirstFault plan cert error
    → IfOk result (λ (a : Answer). (a.status ≡ status.Fault) × IsErrorText plan error (cow_str_bytes a.text))
    → IfOk result (λ (a : Answer). (a.status ≡ status.Fault) × IsFaultText plan cert (cow_str_bytes a.text))
first_told plan cert (check_error.Fault fault) (Ok a) first (is, told) = (is, (fault, first, told))
first_told plan cert check_error.OutOfMemory (Ok a) first (is, told) = absurd told
first_told plan cert error (Err why) first told = tt
