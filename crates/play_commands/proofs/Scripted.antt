-- What comes of the last of some events, and how a text of events is judged.
use Rattle.std.{proofs.Common.{◌≡◌, ◌≢◌, ◌-◌, ◌<◌, ◌≤◌, ℕ, List, [], ◌∷◌, ◌++◌, length, map, take, Option, Some, None, Ok, inl, inr, refl, sym, ◌∙◌, ap, subst, length-append, arith}, specs.Prelude.{slice_get, option_map, true, false, IsSome}, specs.Cow.{cow_str_bytes}, specs.Option.{option_to_list}, proofs.lemmas.List.{length-map, take_all}, proofs.lemmas.Option.{slice_get-map, slice_get_within}}
use Rattle.net_plan.{specs.declared.error.PlanError.{PlanError}, specs.EventReading.{events as read_events}, specs.EventText.{AreEventsOf}, specs.Refusals.{IsRefused}}
use Rattle.plan_values.{specs.PlanValues.{plan_value, node_names}, specs.declared.certificate.Certificate.{Certificate}, specs.declared.event.Event.{Event}, specs.declared.nodes.Node.{Node}, specs.declared.plan.Plan.{Plan}}
use Rattle.net_rules.specs.Rules.{Accepts}
use Rattle.net_runs.specs.Walkers.{WalkedEvent, WalkedOutcome, walked_at_start}
use Rattle.net_sim.{specs.declared.outcome.Outcome.{Outcome}, specs.Outcomes.{event_value, outcome_value}, specs.Played.{IsRunOf}, specs.WalkedStanding.{NetworkValue}, specs.Walks.{HaveWalked}}
use Rattle.net_tables.{specs.Repositories.{records_of}, specs.Routing.{Holds}, specs.TwoPlans.{one_plan}}
use Rattle.command_questions.specs.declared.walk_script.WalkScript.{WalkScript}
use Rattle.command_answers.{specs.declared.answer.Answer.{Answer}, specs.declared.status.Status.{Status}, specs.Naming.{IsFirstNamed}}
use Rattle.play_commands.{specs.declared.script.judging.Judged.{Judged}, specs.Scripting.{last_item, EndsWith, HasRecords, IsDone, IsNotDoneBy, HasNoEvents, IsJudged, AnswersScriptOn, no_script}}
use Rattle.net_plan.specs.declared.error.PlanError.TheVariants as error
use Rattle.command_answers.specs.declared.status.Status.TheVariants as status
use Rattle.play_commands.specs.declared.script.judging.Judged.TheVariants as judged

-- ---- the last of a list

behind : {A : Type 0} (xs : List A) (x : A) → slice_get (xs ++ x ∷ []) (length xs) ≡ Some x
behind [] x = refl
behind (y ∷ xs) x = behind xs x

pub last_behind : {A : Type 0} (xs : List A) (x : A) → last_item (xs ++ x ∷ []) ≡ Some x
last_behind xs x =
    let many = length-append xs (x ∷ []) in
    let last : length (xs ++ x ∷ []) - 1 ≡ length xs = omega (arith, many) in
    ap (slice_get (xs ++ x ∷ [])) last ∙ behind xs x

-- what was taken off the end of a list was its last item
pub last_taken : {A B : Type 0} (f : A → B) (items rest : List A) (taken : Option A) → items ≡ rest ++ option_to_list taken → (0 < length items → (taken ≡ None → ⊥))
    → last_item (map f items) ≡ option_map f taken
last_taken f items rest (Some x) is some =
    let there : slice_get (map f items) (length (map f items) - 1) ≡ option_map f (slice_get items (length items - 1)) =
    ap (λ n. slice_get (map f items) (n - 1)) (length-map items f) ∙ slice_get-map f items (length items - 1) in
    there ∙ ap (option_map f) (ap last_item is ∙ last_behind rest x)
last_taken f [] rest None is some = refl
last_taken f (y ∷ items) rest None is some = absurd (some (omega arith) refl)

pub no_item : {A : Type 0} (o : Option A) → IsSome o → o ≡ None → ⊥
no_item None some none = cc some
no_item (Some a) some none = cc none

-- the run that was played ends with the outcome of its last event
pub ends_with : (plan : Plan) (cert : Certificate) (events : List WalkedEvent) (new : NetworkValue) (n : ℕ) (outcomes : List WalkedOutcome) (last : Option WalkedOutcome)
    → length events ≤ n → (run : IsRunOf (one_plan plan) (walked_at_start plan cert) (take n events) outcomes new) → HaveWalked (one_plan plan) cert run.turns
    → last_item outcomes ≡ last → EndsWith plan cert events last
ends_with plan cert events new n outcomes last all run walked is = record {
  turns = run.turns;
  events_are = run.events_are ∙ take_all n events all;
  runs = run.runs;
  walked = walked;
  last_is = ap last_item run.outcomes_are ∙ is;
}

-- ---- records

some_of_map : {A B : Type 0} (f : A → B) (o : Option A) (e : B) → option_map f o ≡ Some e → (a : A) × (o ≡ Some a)
some_of_map f None e is = absurd (cc is)
some_of_map f (Some a) e is = (a, refl)

-- a node that holds e has not so many records, where none of all nodes has
pub no_records : (plan : Plan) (end e count : ℕ) → length plan.nodes.items ≤ end → ((n : ℕ) → n < end → ¬ (Holds plan n e × (length (records_of plan n) ≡ count)))
    → ¬ HasRecords plan e count
no_records plan end e count all none (n, holds, many) =
    let node = some_of_map (λ (node : Node). node.eid.value) (slice_get plan.nodes.items n) e holds in
    let within : n < length plan.nodes.items = slice_get_within plan.nodes.items n node.0 node.1 in
    none n (omega arith) (holds, many)

-- ---- judgements

-- the walk isn't done at the end of the run
pub not_done : (n : ℕ) (script : WalkScript) (plan shown : Plan) (cert : Certificate) (events : List Event) (told : Option Outcome) (last : Outcome) → shown ≡ plan → told ≡ Some last
    → EndsWith plan cert (map event_value events) (option_map outcome_value told) → ¬ IsDone shown script.eid.value (outcome_value last) → IsNotDoneBy n script plan cert events
not_done n script plan shown cert events told last same is ends isnt = inr (
  Some (outcome_value last),
  subst (λ (o : Option Outcome). EndsWith plan cert (map event_value events) (option_map outcome_value o)) is ends,
  subst (λ (p : Plan). ¬ IsDone p script.eid.value (outcome_value last)) same isnt,
)

-- a text that is refused stands for no events
pub no_events : (plan shown : Plan) (text read : List ℕ) (cause : PlanError) → shown ≡ plan → read ≡ text → cause ≢ error.OutOfMemory
    → IsRefused (read_events (node_names (plan_value shown).nodes)) (AreEventsOf (plan_value shown)) read cause → HasNoEvents plan text
no_events plan shown text read cause same is no_lack refused =
    let P : Plan → Type 0 = λ p. IsRefused (read_events (node_names (plan_value p).nodes)) (AreEventsOf (plan_value p)) read cause in
    let T : List ℕ → Type 0 = λ t. IsRefused (read_events (node_names (plan_value plan).nodes)) (AreEventsOf (plan_value plan)) t cause in
    (cause, no_lack, subst T is (subst P same refused))

-- that no text that was made is a script answers where one isn't
pub other_told : (script : WalkScript) (plan : Plan) (cert : Certificate) (checked : Plan × Certificate) (n : ℕ) (made : List ℕ) (is : Judged) (a : Answer) → Accepts plan cert
    → IsFirstNamed plan script.node.now n → checked ≡ (plan, cert) → IsJudged n script checked.0 checked.1 made is → is ≡ judged.Other → a.status ≡ status.Fault
    → cow_str_bytes a.text ≡ no_script → AnswersScriptOn script plan cert a.status (cow_str_bytes a.text)
other_told script plan cert checked n made is a accepted first same judges other ends told =
    let A : Status → Type 0 = λ s. AnswersScriptOn script plan cert s (cow_str_bytes a.text) in
    let C : Plan × Certificate → Type 0 = λ c. IsJudged n script c.0 c.1 made is in
    let J : Judged → Type 0 = λ j. IsJudged n script plan cert made j in
    subst A (sym ends) (inr (inl (accepted, n, first, made, subst J other (subst C same judges), told)))
