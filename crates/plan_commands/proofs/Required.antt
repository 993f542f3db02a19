-- What the end of `require` tells of an answer.
use Rattle.std.{proofs.Common.{◌≡◌, ℕ, List, Result, Ok, Err, inl, inr, subst}, specs.Prelude.{IfOk}, specs.Cow.{cow_str_bytes}}
use Rattle.plan_values.{specs.declared.certificate.Certificate.{Certificate}, specs.declared.plan.Plan.{Plan}}
use Rattle.net_rules.specs.Rules.{Accepts}
use Rattle.command_answers.{specs.declared.answer.Answer.{Answer}, specs.declared.refused.Refused.{Refused}, specs.Answers.{IsFaultText}}
use Rattle.plan_commands.specs.Requiring.{IsRequiredOn, RequiresOn}
use Rattle.command_answers.specs.declared.status.Status.TheVariants as status

module _ (plan : Plan) (cert : Certificate) where
  pub checked_so : (checked : Plan × Certificate) (wanted : List ℕ) (result : Result Answer Refused) → checked ≡ (plan, cert) → Accepts plan cert
      → IfOk result (λ (a : Answer). IsRequiredOn checked.0 wanted a.status (cow_str_bytes a.text))
      → IfOk result (λ (a : Answer). RequiresOn plan cert wanted a.status (cow_str_bytes a.text))
  checked_so checked wanted (Ok a) same accepted answers =
      inl (accepted, subst (λ (c : Plan × Certificate). IsRequiredOn c.0 wanted a.status (cow_str_bytes a.text)) same answers)
  checked_so checked wanted (Err why) same accepted answers = tt

  pub fault_so : (wanted : List ℕ) (result : Result Answer Refused)
      → IfOk result (λ (a : Answer). (a.status ≡ status.Fault) × IsFaultText plan cert (cow_str_bytes a.text))
      → IfOk result (λ (a : Answer). RequiresOn plan cert wanted a.status (cow_str_bytes a.text))
  fault_so wanted (Ok a) told = inr told
  fault_so wanted (Err why) told = tt
