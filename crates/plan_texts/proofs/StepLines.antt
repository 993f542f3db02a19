-- The lines of steps, one after the other.
use Rattle.std.{proofs.Common.{◌≡◌, ◌<◌, ◌+◌, ℕ, suc, List, [], ◌∷◌, ◌++◌, length, take, get_or, ap, refl, sym, ◌∙◌, arith}, proofs.Math.Seq.{take-suc}, proofs.lemmas.List.{append-nil, append_assoc, length-take}}
use Rattle.plan_values.specs.declared.plan.Plan.{Plan}
use Rattle.net_rollout.specs.declared.change.Step.{Step}
use Rattle.plan_texts.specs.MoveSteps.{change_text, steps_text}

steps_push : (plan : Plan) (number : ℕ) (steps : List Step) (step : Step) → steps_text plan number (steps ++ step ∷ []) ≡ steps_text plan number steps ++ change_text plan (number + length steps) step.change
steps_push plan number [] step =
    let at : number ≡ number + 0 = omega arith in
    append-nil (change_text plan number step.change) ∙ ap (λ n. change_text plan n step.change) at
steps_push plan number (one ∷ steps) step =
    let at : suc number + length steps ≡ number + suc (length steps) = omega arith in
    ap (λ rest. change_text plan number one.change ++ rest) (steps_push plan (suc number) steps step ∙ ap (λ n. steps_text plan (suc number) steps ++ change_text plan n step.change) at)
    ∙ sym (append_assoc (change_text plan number one.change) (steps_text plan (suc number) steps) (change_text plan (number + suc (length steps)) step.change))

-- the lines of one step more
pub one_step_more : (plan : Plan) (steps : List Step) (k : ℕ) (step : Step) → k < length steps → step ≡ get_or steps k step
    → steps_text plan 1 (take k steps) ++ change_text plan (k + 1) step.change ≡ steps_text plan 1 (take (k + 1) steps)
one_step_more plan steps k step within is =
    let at : k + 1 ≡ suc k = omega arith in
    let one : take (k + 1) steps ≡ take k steps ++ (step ∷ []) = ap (λ n. take n steps) at ∙ (take-suc steps k step within ∙ ap (λ s. take k steps ++ (s ∷ [])) (sym is)) in
    let long : k + 1 ≡ 1 + length (take k steps) = omega (arith, length-take k steps) in
    ap (λ n. steps_text plan 1 (take k steps) ++ change_text plan n step.change) long ∙ (sym (steps_push plan 1 (take k steps) step) ∙ ap (steps_text plan 1) (sym one))
