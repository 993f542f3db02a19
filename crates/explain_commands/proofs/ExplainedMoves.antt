-- What the end of `explain` tells of an answer on a move.
use Rattle.std.{proofs.Common.{◌≡◌, ◌++◌, [], List, ℕ, Result, Ok, Err, Some, None, inl, inr, refl}, specs.Prelude.{IfOk}, specs.Cow.{cow_str_bytes}}
use Rattle.net_rules.{specs.Faults.{site_of}, specs.declared.fault.Fault.{Fault}, specs.declared.move_obstacle.MoveObstacle.{MoveObstacle}}
use Rattle.net_explained.{specs.declared.cause.Cause.{Cause}, specs.Causes.{IsCauseAt}}
use Rattle.plan_values.specs.declared.plan.Plan.{Plan}
use Rattle.command_answers.{specs.declared.answer.Answer.{Answer}, specs.declared.inputs.Unread.{Unread}, specs.declared.refused.Refused.{Refused}, specs.Answers.{Stream, GavePlanText}, specs.UnreadInputs.{IsNoPlanBy}, proofs.UnreadTexts.{IsUnreadAnswer, plan_told}}
use Rattle.fault_texts.specs.RuledOutMoves.{IsMoveRuledOutBy}
use Rattle.explanation_texts.specs.Explanations.{told_subjects}
use Rattle.explain_commands.{specs.Explaining.{AreEditsTold, IsCauseTold, IsToldWithEdits}, specs.ExplainingMoves.{ExplainsMoveSo, IsMoveExplained, IsMoveExplainedWith, IsMoveObstacleText, IsMoveTold}, specs.MoveRows.{PlanFile}}
use Rattle.net_rules.specs.declared.certify_error.CertifyError.TheVariants as error
use Rattle.command_answers.specs.declared.status.Status.TheVariants as status
use Rattle.command_answers.specs.declared.refused.Input.TheVariants as input

-- ---- a run

-- the answer where the plan before was given
pub of_before : (name new_name text : List ℕ) (befores afters : Stream) (plan : Plan) (result : Result Answer Refused) → GavePlanText befores text plan
    → IfOk result (λ (a : Answer). IsMoveExplainedWith (record { name = name; text = text; plan = plan }) new_name afters a.status (cow_str_bytes a.text))
    → IfOk result (λ (a : Answer). ExplainsMoveSo name new_name befores afters a.status (cow_str_bytes a.text))
of_before name new_name text befores afters plan (Ok a) given h = inl (text, plan, given, h)
of_before name new_name text befores afters plan (Err why) given h = tt

-- the answer where it was not
pub without_before : (name new_name : List ℕ) (befores afters : Stream) (u : Unread) (result : Result Answer Refused) → IsNoPlanBy befores u
    → IfOk result (IsUnreadAnswer input.Plan u) → IfOk result (λ (a : Answer). ExplainsMoveSo name new_name befores afters a.status (cow_str_bytes a.text))
without_before name new_name befores afters u (Ok a) by h = inr (h.0, plan_told befores u _ by h.1)
without_before name new_name befores afters u (Err why) by h = tt

-- the answer where the plan after was given too
pub of_after : (before : PlanFile) (name text : List ℕ) (afters : Stream) (plan : Plan) (result : Result Answer Refused) → GavePlanText afters text plan
    → IfOk result (λ (a : Answer). IsMoveExplained before (record { name = name; text = text; plan = plan }) a.status (cow_str_bytes a.text))
    → IfOk result (λ (a : Answer). IsMoveExplainedWith before name afters a.status (cow_str_bytes a.text))
of_after before name text afters plan (Ok a) given h = inl (text, plan, given, h)
of_after before name text afters plan (Err why) given h = tt

-- the answer where it was not
pub without_after : (before : PlanFile) (name : List ℕ) (afters : Stream) (u : Unread) (result : Result Answer Refused) → IsNoPlanBy afters u
    → IfOk result (IsUnreadAnswer input.Plan u) → IfOk result (λ (a : Answer). IsMoveExplainedWith before name afters a.status (cow_str_bytes a.text))
without_after before name afters u (Ok a) by h = inr (h.0, plan_told afters u _ by h.1)
without_after before name afters u (Err why) by h = tt

-- ---- texts

-- the line of what rules certificates of a move out, and what explains it
pub move_written : {A E : Type 0} (bytes : A → List ℕ) (before after : PlanFile) (o : MoveObstacle) (line told : List ℕ) (r : Result A E)
    → IsMoveRuledOutBy before.plan after.plan o line → IsMoveTold before after o told
    → IfOk r (λ t. bytes t ≡ line ++ told) → IfOk r (λ t. IsMoveObstacleText before after (bytes t))
move_written bytes before after o line told (Ok t) out explained written = record {
  obstacle = o;
  line = line;
  told = told;
  ruled_out = out;
  explained = explained;
  written = written;
}
move_written bytes before after o line told (Err e) out explained written = tt

module _ {A E : Type 0} (bytes : A → List ℕ) (plan : Plan) (fault : Fault) where
  -- a fault that has a cause in the plan
  pub by_cause : (cause : Cause) (r : Result A E) → IsCauseAt plan (site_of fault) (Some cause)
      → IfOk r (λ t. IsCauseTold plan fault cause (bytes t)) → IfOk r (λ t. IsToldWithEdits plan (error.Fault fault) (bytes t))
  by_cause cause (Ok t) at_site (lines, edits, tells, tried, written) =
      (lines, edits, (told_subjects plan fault (Some cause), (Some cause, at_site, refl), tells), tried, written)
  by_cause cause (Err e) at_site told = tt

  -- a fault that has none
  pub without_cause : (r : Result A E) → IsCauseAt plan (site_of fault) None
      → IfOk r (λ t. AreEditsTold plan (error.Fault fault) (bytes t)) → IfOk r (λ t. IsToldWithEdits plan (error.Fault fault) (bytes t))
  without_cause (Ok t) at_site tried = ([], bytes t, ([], (None, at_site, refl), ([], refl, refl)), tried, refl)
  without_cause (Err e) at_site tried = tt
