-- What is told of all faults, and of the first.
use Rattle.std.{proofs.Common.{◌≡◌, ◌≢◌, ℕ, List, [], ◌∷◌, map, sym, ◌∙◌, Some, Result, Ok, Err, Bor, refl, subst, arith, inl, inr}, specs.Prelude.{IfOk, Contains}, specs.Cow.{cow_str_bytes}}
use Rattle.plan_values.{specs.declared.plan.Plan.{Plan}, specs.declared.certificate.Certificate.{Certificate}}
use Rattle.net_rules.{specs.declared.fault.Fault.{Fault}, specs.declared.fault_run.FaultRun.{FaultRun}, specs.FaultLists.{AreFaults}, specs.Faults.{IsFirstFault, site_of}}
use Rattle.command_answers.{specs.declared.answer.Answer.{Answer}, specs.declared.refused.Refused.{Refused}, specs.Answers.{IsFaultText}}
use Rattle.command_questions.specs.declared.certified.Question.{Question}
use Rattle.plan_commands.specs.Certified.{IsFaultAnswer}
use Rattle.net_faults.{specs.declared.plan_fault.PlanFault.{PlanFault}, specs.declared.plan_fault.PlanFault.TheVariants.{Broken}, specs.PlanFaults.{AreAllFaults}}
use Rattle.command_questions.specs.declared.certified.Question.TheVariants as question
use Rattle.command_answers.specs.declared.status.Status.TheVariants as status

-- where there is a fault there is a run
some_runs : (plan : Plan) (cert : Certificate) (fault : Fault) (runs : List FaultRun) → IsFirstFault plan cert (site_of fault) → AreFaults plan (Some cert) runs → runs ≢ []
some_runs plan cert fault runs first faults empty = elim (faults.all (site_of fault)) [
  | inl met ↦ first.broken met
  | inr (run, has, is) ↦ (let none = subst (λ (rs : List FaultRun). Contains rs run) empty has in omega (arith, none.1))
]

unlisted : (runs : List FaultRun) (faults : List PlanFault) → faults ≡ map Broken runs → faults ≡ [] → runs ≡ []
unlisted [] faults same empty = refl
unlisted (run ∷ runs) faults same empty = absurd (let none : Broken run ∷ map Broken runs ≡ [] = sym same ∙ empty in cc)

-- so it is listed
pub some_faults : (plan : Plan) (cert : Certificate) (fault : Fault) (faults : List PlanFault) → IsFirstFault plan cert (site_of fault) → AreAllFaults plan (Some cert) faults → faults ≢ []
some_faults plan cert fault faults first (runs, all, same) empty = some_runs plan cert fault runs first all (unlisted runs faults same empty)

other_answer : (asked : Question) (text : List ℕ) (plan : Plan) (cert : Certificate) (lines : List ℕ) → ((name : Bor (List ℕ)) → asked ≢ question.Faults name)
    → IsFaultText plan cert lines → IsFaultAnswer asked text plan cert lines
other_answer (question.Faults name) text plan cert lines other told = absurd (other name refl)
other_answer question.Check text plan cert lines other told = told
other_answer question.Assign text plan cert lines other told = told
other_answer question.Reach text plan cert lines other told = told
other_answer question.Matrix text plan cert lines other told = told
other_answer (question.Draw rows) text plan cert lines other told = told
other_answer (question.Walk node part) text plan cert lines other told = told
other_answer (question.Trace from to) text plan cert lines other told = told

-- to other questions than for all faults the first is told
pub others_told : (asked : Question) (text : List ℕ) (plan : Plan) (cert : Certificate) (result : Result Answer Refused) → ((name : Bor (List ℕ)) → asked ≢ question.Faults name)
    → IfOk result (λ (a : Answer). (a.status ≡ status.Fault) × IsFaultText plan cert (cow_str_bytes a.text))
    → IfOk result (λ (a : Answer). (a.status ≡ status.Fault) × IsFaultAnswer asked text plan cert (cow_str_bytes a.text))
others_told asked text plan cert (Ok a) other (is, told) = (is, other_answer asked text plan cert (cow_str_bytes a.text) other told)
others_told asked text plan cert (Err why) other told = tt
