-- The lines of a way.
use Rattle.std.{proofs.Common.{◌≡◌, ◌+◌, ◌<◌, ℕ, List, [], ◌∷◌, ◌++◌, length, take, get_or, sym, ◌∙◌, ap, append_assoc, append-nil, arith}, proofs.lemmas.List.{length-take-le, take_more}}
use Rattle.plan_values.specs.declared.plan.Plan.{Plan}
use Rattle.net_questions.specs.declared.step.WayStep.{WayStep}
use Rattle.question_texts.specs.WayLines.{step_line, steps_from}

-- ---- lines

steps_more : (plan : Plan) (number : ℕ) (steps : List WayStep) (step : WayStep)
    → steps_from plan number (steps ++ step ∷ []) ≡ steps_from plan number steps ++ step_line plan (number + length steps) step
steps_more plan number [] step =
    append-nil (step_line plan number step) ∙ ap (λ n. step_line plan n step) (let same : number ≡ number + 0 = omega arith in same)
steps_more plan number (first ∷ steps) step =
    let further : number + 1 + length steps ≡ number + length (first ∷ steps) = omega arith in
    ap (λ z. step_line plan number first ++ z) (steps_more plan (number + 1) steps step)
    ∙ (sym (append_assoc (step_line plan number first) (steps_from plan (number + 1) steps) (step_line plan (number + 1 + length steps) step))
    ∙ ap (λ n. step_line plan number first ++ steps_from plan (number + 1) steps ++ step_line plan n step) further)

-- the lines of so many steps, and that of the next
pub one_step_more : (plan : Plan) (steps : List WayStep) (index : ℕ) (default : WayStep) (lines line : List ℕ) → index < length steps
    → lines ≡ steps_from plan 1 (take index steps) → line ≡ step_line plan (index + 1) (get_or steps index default) → lines ++ line ≡ steps_from plan 1 (take (index + 1) steps)
one_step_more plan steps index default lines line within before told =
    let step = get_or steps index default in
    let earlier = take index steps in
    let many : length earlier ≡ index = length-take-le index steps (omega (arith, within)) in
    let number : 1 + length earlier ≡ index + 1 = omega (arith, many) in
    let more : take (index + 1) steps ≡ earlier ++ step ∷ [] = take_more steps index default within in
    ap (λ z. z ++ line) before
    ∙ (ap (λ z. steps_from plan 1 earlier ++ z) (told ∙ ap (λ n. step_line plan n step) (sym number))
    ∙ (sym (steps_more plan 1 earlier step) ∙ ap (steps_from plan 1) (sym more)))
