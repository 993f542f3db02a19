-- Whole lists of events that are played, one after another.
use Rattle.std.{proofs.Common.{◌≡◌, ℕ, ◌+◌, ◌<◌, List, [], ◌∷◌, ◌++◌, length, map, take, get_or, Some, refl, sym, ◌∙◌, ap, subst, arith}, specs.Prelude.{Option, IsSomeAnd, slice_get, option_map}, proofs.lemmas.List.{length-map, map-append, take_more, length_push}, proofs.lemmas.Option.{slice_get-map, slice_get-get_or, get_or_from_slice_get}}
use Rattle.plan_values.specs.declared.event.Event.{Event}
use Rattle.net_tables.specs.TwoPlans.{Tables}
use Rattle.net_runs.{specs.Walkers.{WalkedState, WalkedEvent, WalkedOutcome}, specs.WalkedRuns.{WalkedStep, WalkedTurn, WalkedRunFrom, walked_after}}
use Rattle.net_sim.{specs.declared.outcome.Outcome.{Outcome}, specs.Outcomes.{event_value, outcome_value}, specs.WalkedStanding.{NetworkValue, StandsForWalked, WalkedPlays, WalkedWants, WalkedMayWant}, specs.Played.{IsRunOf, PlaysAll, StopsAfter}}

run_more : (tables : Tables) (w : WalkedState) (turns : List WalkedTurn) (turn : WalkedTurn) → WalkedRunFrom tables w turns → WalkedStep tables (walked_after w turns) turn.event turn.outcome turn.after → WalkedRunFrom tables w (turns ++ turn ∷ [])
run_more tables w [] turn run step = (step, tt)
run_more tables w (first ∷ turns) turn (done, rest) step = (done, run_more tables first.after turns turn rest step)

after_more : (w : WalkedState) (turns : List WalkedTurn) (turn : WalkedTurn) → walked_after w (turns ++ turn ∷ []) ≡ turn.after
after_more w [] turn = refl
after_more w (first ∷ turns) turn = after_more first.after turns turn

plays_none : (tables : Tables) (v : NetworkValue) → PlaysAll tables v [] [] v
plays_none tables v w stands = record { turns = []; events_are = refl; outcomes_are = refl; runs = tt; stands = stands }

plays_more : (tables : Tables) (v u new : NetworkValue) (events : List WalkedEvent) (outcomes : List WalkedOutcome) (e : WalkedEvent) (o : WalkedOutcome)
    → PlaysAll tables v events outcomes u → WalkedPlays tables u e o new → PlaysAll tables v (events ++ e ∷ []) (outcomes ++ o ∷ []) new
plays_more tables v u new events outcomes e o all one w stands =
    let r = all w stands in
    let (next, step, there) = one (walked_after w r.turns) r.stands in
    let turn : WalkedTurn = record { event = e; outcome = o; after = next } in
    let S : WalkedState → Type 0 = StandsForWalked new in
    record {
      turns = r.turns ++ turn ∷ [];
      events_are = map-append (λ (t : WalkedTurn). t.event) r.turns (turn ∷ []) ∙ ap (λ es. es ++ e ∷ []) r.events_are;
      outcomes_are = map-append (λ (t : WalkedTurn). t.outcome) r.turns (turn ∷ []) ∙ ap (λ os. os ++ o ∷ []) r.outcomes_are;
      runs = run_more tables w r.turns turn r.runs step;
      stands = subst S (sym (after_more w r.turns turn)) there;
    }

pub one_played : (tables : Tables) (v new : NetworkValue) (e : WalkedEvent) (o : WalkedOutcome) → WalkedPlays tables v e o new → PlaysAll tables v (e ∷ []) (o ∷ []) new
one_played tables v new e o one = plays_more tables v v new [] [] e o (plays_none tables v) one

-- memory ran out at the next event, which changed nothing
plays_still : (tables : Tables) (v u new : NetworkValue) (events : List WalkedEvent) (outcomes : List WalkedOutcome) (e : WalkedEvent)
    → PlaysAll tables v events outcomes u → WalkedWants tables u e new → PlaysAll tables v events outcomes new
plays_still tables v u new events outcomes e all wants w stands =
    let r = all w stands in
    record { turns = r.turns; events_are = r.events_are; outcomes_are = r.outcomes_are; runs = r.runs; stands = (wants (walked_after w r.turns) r.stands).0 }

-- ---- the events of a list

-- What came of so many of the events.
pub record HasPlayed (tables : Tables) (v : NetworkValue) (events : List Event) (count : ℕ) (outcomes : List Outcome) (u : NetworkValue) : Type 0 where
  pub plays : PlaysAll tables v (take count (map event_value events)) (map outcome_value outcomes) u
  pub long : length outcomes ≡ count

module _ (events : List Event) (count : ℕ) (e : Event) (within : count < length events) (is : e ≡ get_or events count e) where
  there : slice_get (map event_value events) count ≡ Some (event_value e)
  there = slice_get-map event_value events count ∙ ap (option_map event_value) (slice_get-get_or events count e within ∙ ap Some (sym is))

  one_more : take (count + 1) (map event_value events) ≡ take count (map event_value events) ++ event_value e ∷ []
  one_more =
      take_more (map event_value events) count (event_value e) (omega (arith, length-map events event_value))
      ∙ ap (λ x. take count (map event_value events) ++ x ∷ []) (get_or_from_slice_get (map event_value events) count (event_value e) (event_value e) there)

  -- what holds of the event holds of the next one after so many outcomes
  pub holds_of_next : (outcomes : List Outcome) → length outcomes ≡ count → (P : Event → Type 0) → P e → IsSomeAnd (slice_get events (length outcomes)) P
  holds_of_next outcomes long P holds =
      subst (λ (o : Option Event). IsSomeAnd o P) (sym (ap (slice_get events) long ∙ (slice_get-get_or events count e within ∙ ap Some (sym is)))) holds

  pub played_more : (tables : Tables) (v u new : NetworkValue) (outcomes : List Outcome) (o : Outcome) → HasPlayed tables v events count outcomes u
      → WalkedPlays tables u (event_value e) (outcome_value o) new → HasPlayed tables v events (count + 1) (outcomes ++ o ∷ []) new
  played_more tables v u new outcomes o played one =
      let all = plays_more tables v u new (take count (map event_value events)) (map outcome_value outcomes) (event_value e) (outcome_value o) played.plays one in
      let P : List WalkedEvent → Type 0 = λ es. PlaysAll tables v es (map outcome_value (outcomes ++ o ∷ [])) new in
      let Q : List WalkedOutcome → Type 0 = λ os. PlaysAll tables v (take count (map event_value events) ++ event_value e ∷ []) os new in
      record {
        plays = subst P (sym one_more) (subst Q (sym (map-append outcome_value outcomes (o ∷ []))) all);
        long = length_push outcomes o ∙ ap (λ n. n + 1) played.long;
      }

  pub played_still : (tables : Tables) (v u new : NetworkValue) (outcomes : List Outcome) → HasPlayed tables v events count outcomes u
      → WalkedWants tables u (event_value e) new → HasPlayed tables v events count outcomes new
  played_still tables v u new outcomes played wants = record {
    plays = plays_still tables v u new (take count (map event_value events)) (map outcome_value outcomes) (event_value e) played.plays wants;
    long = played.long;
  }

  pub played_stops : (tables : Tables) (v u new : NetworkValue) (outcomes : List Outcome) → HasPlayed tables v events count outcomes u
      → WalkedWants tables u (event_value e) new → StopsAfter tables v (map event_value events) (map outcome_value outcomes) new
  unfolding plays_still
  played_stops tables v u new outcomes played wants =
      let many : length (map outcome_value outcomes) ≡ count = length-map outcomes outcome_value ∙ played.long in
      let all = plays_still tables v u new (take count (map event_value events)) (map outcome_value outcomes) (event_value e) played.plays wants in
      record {
        event = event_value e;
        next = ap (λ n. slice_get (map event_value events) n) many ∙ there;
        wants = λ w stands.
            let P : ℕ → Type 0 = λ n. (run : IsRunOf tables w (take n (map event_value events)) (map outcome_value outcomes) new) × WalkedMayWant tables (walked_after w run.turns) (event_value e) in
            subst P (sym many) (all w stands, (wants (walked_after w (played.plays w stands).turns) (played.plays w stands).stands).1);
      }

-- the same over another name of the tables
plays_in : (tables tables' : Tables) (u new : NetworkValue) (e : WalkedEvent) (o : WalkedOutcome) → tables' ≡ tables → WalkedPlays tables' u e o new → WalkedPlays tables u e o new
plays_in tables tables' u new e o same = subst (λ (t : Tables). WalkedPlays t u e o new) same

wants_in : (tables tables' : Tables) (u new : NetworkValue) (e : WalkedEvent) → tables' ≡ tables → WalkedWants tables' u e new → WalkedWants tables u e new
wants_in tables tables' u new e same = subst (λ (t : Tables). WalkedWants t u e new) same

pub played_start : (tables : Tables) (v : NetworkValue) (events : List Event) (outcomes : List Outcome) → outcomes ≡ [] → HasPlayed tables v events 0 outcomes v
played_start tables v events outcomes none = (let P : List Outcome → Type 0 = λ os. HasPlayed tables v events 0 os v in subst P (sym none) (record { plays = plays_none tables v; long = refl }))

pub played_plays : (tables : Tables) (v u : NetworkValue) (events : List Event) (count : ℕ) (outcomes : List Outcome) → HasPlayed tables v events count outcomes u
    → PlaysAll tables v (take (length outcomes) (map event_value events)) (map outcome_value outcomes) u
played_plays tables v u events count outcomes played =
    let P : ℕ → Type 0 = λ n. PlaysAll tables v (take n (map event_value events)) (map outcome_value outcomes) u in
    subst P (sym played.long) played.plays

module _ (events : List Event) (count : ℕ) (e : Event) (within : count < length events) (is : e ≡ get_or events count e) (tables tables' : Tables) (same : tables' ≡ tables) where
  pub played_next : (v u new : NetworkValue) (outcomes more : List Outcome) (o : Outcome) → more ≡ outcomes ++ o ∷ [] → HasPlayed tables v events count outcomes u
      → WalkedPlays tables' u (event_value e) (outcome_value o) new → HasPlayed tables v events (count + 1) more new
  played_next v u new outcomes more o pushed played one =
      let P : List Outcome → Type 0 = λ os. HasPlayed tables v events (count + 1) os new in
      subst P (sym pushed) (played_more events count e within is tables v u new outcomes o played (plays_in tables tables' u new (event_value e) (outcome_value o) same one))

  pub stopped_plays : (v u new : NetworkValue) (outcomes : List Outcome) → HasPlayed tables v events count outcomes u → WalkedWants tables' u (event_value e) new
      → PlaysAll tables v (take (length outcomes) (map event_value events)) (map outcome_value outcomes) new
  stopped_plays v u new outcomes played wants =
      played_plays tables v new events count outcomes (played_still events count e within is tables v u new outcomes played (wants_in tables tables' u new (event_value e) same wants))

  pub stopped_after : (v u new : NetworkValue) (outcomes : List Outcome) → HasPlayed tables v events count outcomes u → WalkedWants tables' u (event_value e) new
      → StopsAfter tables v (map event_value events) (map outcome_value outcomes) new
  stopped_after v u new outcomes played wants = played_stops events count e within is tables v u new outcomes played (wants_in tables tables' u new (event_value e) same wants)
