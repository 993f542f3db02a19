-- What `sim` prints of a run, played to its end.
use Rattle.std.{proofs.Common.{◌≡◌, ℕ, ◌+◌, ◌<◌, ◌≤◌, List, [], ◌∷◌, ◌++◌, length, map, take, get_or, Some, sym, ◌∙◌, ap, subst, append_assoc, append-nil, arith}, specs.Prelude.{slice_get, option_map}, specs.Io.KnownBytes.{Appends}, proofs.lemmas.List.{length-map, length-take-le, take_more, take_all}, proofs.lemmas.Option.{slice_get-map, slice_get-get_or, get_or_from_slice_get}}
use Rattle.plan_values.{specs.declared.plan.Plan.{Plan}, specs.declared.certificate.Certificate.{Certificate}}
use Rattle.command_answers.specs.Answers.{Stream}
use Rattle.net_runs.specs.Walkers.{WalkedEvent, WalkedOutcome, walked_at_start}
use Rattle.net_tables.specs.TwoPlans.{Tables}
use Rattle.net_sim.{specs.declared.outcome.Outcome.{Outcome}, specs.Outcomes.{outcome_value}, specs.Played.{IsRunOf}, specs.WalkedStanding.{NetworkValue, StandsForWalked}, specs.Walks.{HaveWalked, PlaysWalks}}
use Rattle.run_texts.specs.OutcomeLines.{outcome_line, lines_from, outcome_lines}
use Rattle.play_commands.specs.Simulating.{ShowsWalks, ShowsLines}

lines_more : (plan : Plan) (number : ℕ) (outcomes : List WalkedOutcome) (outcome : WalkedOutcome)
    → lines_from plan number (outcomes ++ outcome ∷ []) ≡ lines_from plan number outcomes ++ outcome_line plan (number + length outcomes) outcome
lines_more plan number [] outcome =
    append-nil (outcome_line plan number outcome) ∙ ap (λ n. outcome_line plan n outcome) (let same : number ≡ number + 0 = omega arith in same)
lines_more plan number (first ∷ outcomes) outcome =
    let further : number + 1 + length outcomes ≡ number + length (first ∷ outcomes) = omega arith in
    ap (λ z. outcome_line plan number first ++ z) (lines_more plan (number + 1) outcomes outcome)
    ∙ (sym (append_assoc (outcome_line plan number first) (lines_from plan (number + 1) outcomes) (outcome_line plan (number + 1 + length outcomes) outcome))
    ∙ ap (λ n. outcome_line plan number first ++ lines_from plan (number + 1) outcomes ++ outcome_line plan n outcome) further)

module _ (plan : Plan) (outcomes : List Outcome) (index : ℕ) (outcome : Outcome) (within : index < length outcomes) (is : outcome ≡ get_or outcomes index outcome) where
  there : slice_get (map outcome_value outcomes) index ≡ Some (outcome_value outcome)
  there = slice_get-map outcome_value outcomes index ∙ ap (option_map outcome_value) (slice_get-get_or outcomes index outcome within ∙ ap Some (sym is))

  one_more : take (index + 1) (map outcome_value outcomes) ≡ take index (map outcome_value outcomes) ++ outcome_value outcome ∷ []
  one_more =
      take_more (map outcome_value outcomes) index (outcome_value outcome) (omega (arith, length-map outcomes outcome_value))
      ∙ ap (λ x. take index (map outcome_value outcomes) ++ x ∷ []) (get_or_from_slice_get (map outcome_value outcomes) index (outcome_value outcome) (outcome_value outcome) there)

  many : length (take index (map outcome_value outcomes)) ≡ index
  many = length-take-le index (map outcome_value outcomes) (omega (arith, length-map outcomes outcome_value, within))

  -- the lines of so many outcomes, and that of the next
  pub all_lines : (line : List ℕ) → line ≡ outcome_line plan (index + 1) (outcome_value outcome)
      → outcome_lines plan (take index (map outcome_value outcomes)) ++ line ≡ outcome_lines plan (take (index + 1) (map outcome_value outcomes))
  all_lines line told =
      let before_it = take index (map outcome_value outcomes) in
      let number : 1 + length before_it ≡ index + 1 = omega (arith, many) in
      ap (λ z. outcome_lines plan before_it ++ z) (told ∙ ap (λ n. outcome_line plan n (outcome_value outcome)) (sym number))
      ∙ (sym (lines_more plan 1 before_it (outcome_value outcome)) ∙ ap (outcome_lines plan) (sym one_more))

-- all lines of a run from the start, in which the walkers have walked
pub shows_walks : (tables : Tables) (cert : Certificate) (events : List WalkedEvent) (output : Stream) (new : NetworkValue) (n : ℕ) (outcomes : List WalkedOutcome) (k : ℕ)
    → length events ≤ n → length outcomes ≤ k → (run : IsRunOf tables (walked_at_start tables.plan cert) (take n events) outcomes new) → HaveWalked tables cert run.turns
    → ShowsLines tables.plan outcomes k output → ShowsWalks tables cert events output
shows_walks tables cert events output new n outcomes k all_events all_outcomes run walked shown =
    let S : List WalkedOutcome → Type 0 = λ os. Appends output.before.bytes output.after.bytes (outcome_lines tables.plan os) in (
      record {
        turns = run.turns;
        events_are = run.events_are ∙ take_all n events all_events;
        runs = run.runs;
        shown = subst S (take_all k outcomes all_outcomes ∙ sym run.outcomes_are) shown;
      },
      walked,
    )

-- the run that a network plays from the start is one in which the walkers have walked
pub walks_in : (checked checked' : Tables × Certificate) (events : List WalkedEvent) (outcomes : List WalkedOutcome) (old new : NetworkValue)
    → checked' ≡ checked → StandsForWalked old (walked_at_start checked.0.plan checked.1) → PlaysWalks checked'.0 checked'.1 old events outcomes new
    → (run : IsRunOf checked.0 (walked_at_start checked.0.plan checked.1) events outcomes new) × HaveWalked checked.0 checked.1 run.turns
walks_in checked checked' events outcomes old new same stands plays =
    let P : Tables × Certificate → Type 0 = λ c. PlaysWalks c.0 c.1 old events outcomes new in
    let went = subst P same plays [] tt stands in
    (went.0, went.1 went.0)

-- the lines of all outcomes, whatever the plan and the outcomes are called
pub lines_of_all : (plan plan' : Plan) (outcomes outcomes' : List Outcome) (k : ℕ) (text : List ℕ) → plan' ≡ plan → outcomes' ≡ outcomes
    → length (map outcome_value outcomes) ≤ k → text ≡ outcome_lines plan' (map outcome_value outcomes') → text ≡ outcome_lines plan (take k (map outcome_value outcomes))
lines_of_all plan plan' outcomes outcomes' k text same listed all is =
    is ∙ (ap (λ (p : Plan). outcome_lines p (map outcome_value outcomes')) same
    ∙ (ap (λ os. outcome_lines plan (map outcome_value os)) listed ∙ ap (outcome_lines plan) (sym (take_all k (map outcome_value outcomes) all))))
