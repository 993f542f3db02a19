-- The lines that are expected.
use Rattle.std.{proofs.Common.{◌≡◌, ◌∙◌, ◌≤◌, ℕ, List, length, map, take, sym, ap}, proofs.lemmas.List.{take_all}}
use Rattle.plan_values.specs.declared.plan.Plan.{Plan}
use Rattle.net_sim.{specs.declared.outcome.Outcome.{Outcome}, specs.Outcomes.{outcome_value}}
use Rattle.run_texts.specs.OutcomeLines.{outcome_lines}

-- the lines of all outcomes, whatever the plan and the outcomes are called
pub lines_of_all : (plan plan' : Plan) (outcomes outcomes' : List Outcome) (k : ℕ) (text : List ℕ) → plan' ≡ plan → outcomes' ≡ outcomes
    → length (map outcome_value outcomes) ≤ k → text ≡ outcome_lines plan' (map outcome_value outcomes') → text ≡ outcome_lines plan (take k (map outcome_value outcomes))
lines_of_all plan plan' outcomes outcomes' k text same listed all is =
    is ∙ (ap (λ (p : Plan). outcome_lines p (map outcome_value outcomes')) same
    ∙ (ap (λ os. outcome_lines plan (map outcome_value os)) listed ∙ ap (outcome_lines plan) (sym (take_all k (map outcome_value outcomes) all))))
