use Rattle.std.{proofs.Common.{◌≡◌, ◌⊎◌, ℕ, List, Result, Ok, Err, inl, inr, string_bytes, subst}, specs.Prelude.{IfOk, IfErr}}
use Rattle.plan_values.{specs.declared.certificate.Certificate.{Certificate}, specs.declared.plan.Plan.{Plan}}
use Rattle.net_tables.specs.Repositories.{records_by_place}
use Rattle.command_answers.{specs.declared.refused.Refused.{Refused}, specs.Naming.{IsTerminusNamed}}
use Rattle.plan_commands.{specs.Collecting.{EndsEarlyFor}, specs.Walking.{IsWalkText, HasTooManyBytes, walk_text}}
use Rattle.command_answers.specs.declared.refused.Refused.TheVariants as refused
use Rattle.plan_commands.proofs.walk.records_text.Goals as goal

module _ (name : List ℕ) (count : ℕ) (plan plan' : Plan) (cert cert' : Certificate) (same : plan' ≡ plan) (same_cert : cert' ≡ cert)
    (n : ℕ) (named : IsTerminusNamed plan' name n) where
  told : {T : Type 0} (bytes : T → List ℕ) (result : Result T Refused) → IfOk result (λ t. bytes t ≡ walk_text count (records_by_place plan' cert' n))
      → IfOk result (λ t. IsWalkText name count plan cert (bytes t))
  told bytes (Ok t) is =
      let P : Plan → Type 0 = λ p. IsWalkText name count p cert (bytes t) in
      let C : Certificate → Type 0 = λ k. IsWalkText name count plan' k (bytes t) in
      subst P same (subst C same_cert (n, named, is))
  told bytes (Err why) is = tt

  early : {T : Type 0} (result : Result T Refused) → IfErr result (EndsEarlyFor (records_by_place plan' cert' n))
      → IfErr result (λ why. (why ≡ refused.NoMemory) ⊎ ((why ≡ refused.TooMuch) × HasTooManyBytes name plan cert))
  early (Ok t) ends = tt
  early (Err why) (inl lacks) = inl lacks
  early (Err why) (inr (much, many)) =
      let P : Plan → Type 0 = λ p. HasTooManyBytes name p cert in
      let C : Certificate → Type 0 = λ k. HasTooManyBytes name plan' k in
      inr (much, subst P same (subst C same_cert (n, named, many)))

pub returns-in-Some-clause-text : goal.returns-in-Some-clause-text
returns-in-Some-clause-text c =
    told c.args.name.now c.args.part.bytes c.args.checked.now.0 c.plan-plan.result.now c.args.checked.now.1 c.certificate.result.now c.plan-plan.ensures.plan
    c.certificate.ensures.certificate c.in-Some.index c.in-Some.ensures.0 (λ t. string_bytes t) c.walked_text.result c.walked_text.ensures.text

pub returns-in-Some-clause-early : goal.returns-in-Some-clause-early
returns-in-Some-clause-early c =
    early c.args.name.now c.args.part.bytes c.args.checked.now.0 c.plan-plan.result.now c.args.checked.now.1 c.certificate.result.now c.plan-plan.ensures.plan
    c.certificate.ensures.certificate c.in-Some.index c.in-Some.ensures.0 c.walked_text.result c.walked_text.ensures.early
