-- Questions about a plan and its certificate.
use Rattle.std.{proofs.Common.{◌≡◌, ◌⊎◌, ℕ, List, Option, Some, None, is_some, true, false, true≢false, Result, Ok, Err, inl, inr, sym, subst}, specs.Prelude.{IfOk, IfErr, MatchOption}, specs.Cow.{cow_str_bytes}}
use Rattle.net_rules.specs.Rules.{Accepts}
use Rattle.plan_values.{specs.declared.certificate.Certificate.{Certificate}, specs.declared.plan.Plan.{Plan}}
use Rattle.command_answers.{specs.declared.answer.Answer.{Answer}, specs.declared.refused.Refused.{Refused}, specs.declared.status.Status.{Status}}
use Rattle.command_questions.specs.declared.certified.Question.{Question}
use Rattle.plan_commands.specs.Certified.{IsNamedIn, IsTooMuch, AnswersOn, IsUnansweredOn, IsFaultAnswer}
use Rattle.command_answers.specs.declared.refused.Refused.TheVariants as refused
use Rattle.command_answers.specs.declared.status.Status.TheVariants as status

-- a text that was found, or none
pub was_found : {A : Type 0} (N : Type 0) (P : A → Type 0) (found : Option A) → MatchOption found N P → is_some found ≡ true → (a : A) × P a
was_found N P (Some a) h is = (a, h)
was_found N P None h is = absurd (true≢false (sym is))

pub was_not_found : {A : Type 0} (N : Type 0) (P : A → Type 0) (found : Option A) → MatchOption found N P → is_some found ≡ false → N
was_not_found N P (Some a) h is = absurd (true≢false is)
was_not_found N P None h is = h

module _ (asked : Question) (plan : Plan) (cert : Certificate) where
  -- why there is no answer on a checked plan
  pub unfound_so : (checked : Plan × Certificate) (why : Refused) → checked ≡ (plan, cert) → Accepts plan cert
      → (why ≡ refused.NoMemory) ⊎ ((why ≡ refused.TooMuch) × IsTooMuch asked checked.0 checked.1) → IsUnansweredOn asked plan cert why
  unfound_so checked why same accepted (inl is) = subst (IsUnansweredOn asked plan cert) (sym is) tt
  unfound_so checked why same accepted (inr (is, much)) =
      subst (IsUnansweredOn asked plan cert) (sym is) (accepted, subst (λ (c : Plan × Certificate). IsTooMuch asked c.0 c.1) same much)

  pub fault_untold : (result : Result Answer Refused) → IfErr result (λ why. why ≡ refused.NoMemory) → IfErr result (IsUnansweredOn asked plan cert)
  fault_untold (Ok a) lacks = tt
  fault_untold (Err why) lacks = subst (IsUnansweredOn asked plan cert) (sym lacks) tt

-- what is told of faults
pub fault_so : (asked : Question) (text : List ℕ) (plan : Plan) (cert : Certificate) → IsNamedIn asked plan → (result : Result Answer Refused)
    → IfOk result (λ (a : Answer). (a.status ≡ status.Fault) × IsFaultAnswer asked text plan cert (cow_str_bytes a.text))
    → IfOk result (λ (a : Answer). AnswersOn asked text plan cert a.status (cow_str_bytes a.text))
fault_so asked text plan cert named (Ok a) (is, told) =
    let A : Status → Type 0 = λ s. AnswersOn asked text plan cert s (cow_str_bytes a.text) in subst A (sym is) (named, told)
fault_so asked text plan cert named (Err why) told = tt
