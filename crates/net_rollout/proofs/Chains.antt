-- Steps, one after the other.
use Rattle.std.{proofs.Common.{◌≡◌, ◌+◌, ◌-◌, ℕ, zero, suc, List, [], ◌∷◌, ◌++◌, length, Some, ap, sym, arith}, specs.Prelude.{slice_get}, proofs.lemmas.Option.{slice_get_within, same_Some}}
use Rattle.plan_values.specs.declared.plan.Plan.{Plan}
use Rattle.net_rollout.{specs.declared.change.Step.{Step}, specs.Steps.{AreSteps, IsStep, last_plan}}

-- one step more
pub steps_more : (before new : Plan) (steps : List Step) (step : Step) → AreSteps before new steps → IsStep (last_plan before steps) new step
    → AreSteps before new (steps ++ step ∷ [])
steps_more before new [] step are is = (is, tt)
steps_more before new (s ∷ steps) step are is = (are.0, steps_more s.after new steps step are.1 is)

-- the plan of the last step
last_at : (before : Plan) (steps : List Step) (step : Step) (i : ℕ) → slice_get steps i ≡ Some step → i + 1 ≡ length steps → step.after ≡ last_plan before steps
last_at before [] step i is last = absurd (omega (arith, last))
last_at before (s ∷ []) step zero is last = ap (λ x. x.after) (sym (same_Some s step is))
last_at before (s ∷ t ∷ steps) step zero is last = absurd (omega (arith, last))
last_at before (s ∷ steps) step (suc i) is last = last_at s.after steps step i is (omega (arith, last))

pub last_of : (before : Plan) (steps : List Step) (step : Step) → slice_get steps (length steps - 1) ≡ Some step → step.after ≡ last_plan before steps
last_of before steps step is =
    last_at before steps step (length steps - 1) is (omega (arith, slice_get_within steps (length steps - 1) step is))
