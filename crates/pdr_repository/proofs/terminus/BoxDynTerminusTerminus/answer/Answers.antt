use Rattle.std.proofs.Common.{◌≡◌, ℕ, List, Option, ap, subst}
use Rattle.pdr_repository.{specs.Records.{Entry}, specs.Answers.{Answers}}
use Rattle.pdr_repository.proofs.terminus.BoxDynTerminusTerminus.answer.Goals as goal

-- the same answer, of a terminus that is the same
answers_along : (t u : ℕ) (rs ss : List Entry) (request : List ℕ) (answer : Option (List ℕ)) (next : ℕ) → Answers t rs request answer next → t ≡ u → rs ≡ ss → Answers u ss request answer next
answers_along t u rs ss request answer next answers same kept =
    subst (λ k. Answers k ss request answer next) same (subst (λ (xs : List Entry). Answers t xs request answer next) kept answers)

pub returns-clause-answered : goal.returns-clause-answered
returns-clause-answered g c =
    let same = c.deref_box_mut-1.ensures.value.1 in
    answers_along _ _ _ _ _ _ _ c.answer.ensures.0 (ap (λ t. (goal.Terminus-dyn g t).tid t.1) same) (ap (λ t. (goal.Terminus-dyn g t).records t.1) same)
