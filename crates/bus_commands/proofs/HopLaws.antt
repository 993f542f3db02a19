-- The hops of a run that goes on, and the file that has them.
use Rattle.std.{proofs.Common.{◌≡◌, ℕ, ◌+◌, ◌<◌, ◌≤◌, Some, get_or, take, slice_get, length-take-le, List, [], ◌∷◌, ◌++◌, map, length, Option, refl, sym, ap, ◌∙◌, subst, append_assoc, append-nil, arith, option_to_list, option_map}, specs.List.{flat_map}, proofs.lemmas.Grind.{flat_map-append}, proofs.lemmas.List.{length-map, map-append, take_all, take_more}, proofs.lemmas.Option.{slice_get-map, slice_get-get_or, get_or_from_slice_get}}
use Rattle.bus_captures.{specs.Files.{magic}, specs.Links.{link_number}, specs.Numbers.{number_bytes}, specs.Written.{CarriedValue, header_fields, written_bytes, written_file}}
use Rattle.plan_values.{specs.declared.plan.Plan.{Plan}, specs.declared.certificate.Certificate.{Certificate}, specs.declared.event.Event.{Event}}
use Rattle.net_runs.{specs.WalkedRuns.{WalkedRunFrom, WalkedStep, WalkedTurn, walked_after}, specs.Walkers.{WalkedEvent, WalkedOutcome, WalkedState, walked_at_start}}
use Rattle.net_sim.{specs.Outcomes.{event_value}, proofs.PlayedWalks.{run_joins}, specs.WalkedStanding.{NetworkValue, StandsForWalked, WalkedPlays}}
use Rattle.bus_commands.{specs.Capturing.{IsRunFile}, specs.Hops.{DepartureValue, IsDeparture, arriving, departing, departure_value, hop_between, hop_of, hops_from}, specs.declared.departure.Departure.{Departure}}
use Rattle.net_tables.specs.TwoPlans.{one_plan}
use Rattle.bus_captures.specs.declared.format.Order.TheVariants as order
use Rattle.bus_captures.specs.declared.format.TimeUnit.TheVariants as unit
use Rattle.bus_captures.specs.declared.link.Link.TheVariants as link

-- the state behind one turn more
after_more : (w : WalkedState) (turns : List WalkedTurn) (t : WalkedTurn) → walked_after w (turns ++ t ∷ []) ≡ t.after
after_more w [] t = refl
after_more w (u ∷ turns) t = after_more u.after turns t

-- the hops of one turn more
hops_more : (plan : Plan) (w : WalkedState) (k : ℕ) (turns : List WalkedTurn) (t : WalkedTurn)
    → hops_from plan w k (turns ++ t ∷ []) ≡ hops_from plan w k turns ++ option_to_list (hop_of plan (walked_after w turns) (k + length turns) t)
hops_more plan w k [] t =
    append-nil (option_to_list (hop_of plan w k t)) ∙ ap (λ m. option_to_list (hop_of plan w m t)) (omega arith)
hops_more plan w k (u ∷ turns) t =
    let first = option_to_list (hop_of plan w k u) in
    ap (λ hops. first ++ hops) (hops_more plan u.after (k + 1) turns t
    ∙ ap (λ m. hops_from plan u.after (k + 1) turns ++ option_to_list (hop_of plan (walked_after u.after turns) m t)) (omega arith))
    ∙ sym (append_assoc first (hops_from plan u.after (k + 1) turns) _)

behind : (a b c x y : List ℕ) → a ++ (b ++ (c ++ (x ++ y))) ≡ (a ++ (b ++ (c ++ x))) ++ y
behind a b c x y = sym (append_assoc a (b ++ (c ++ x)) y ∙ ap (λ r. a ++ r) (append_assoc b (c ++ x) y ∙ ap (λ r. b ++ r) (append_assoc c x y)))

-- the file of more packets
file_more : (ps qs : List CarriedValue) → written_file (ps ++ qs) ≡ written_file ps ++ flat_map written_bytes qs
file_more ps qs =
    let first = number_bytes order.Little (magic unit.Nano) in
    let last = number_bytes order.Little (link_number link.CookedAgain) in
    ap (λ r. first ++ (header_fields ++ (last ++ r))) (flat_map-append written_bytes ps qs)
    ∙ behind first header_fields last (flat_map written_bytes ps) (flat_map written_bytes qs)

-- the events were played, and the file has their hops
pub record HasCaptured (plan : Plan) (w : WalkedState) (events : List WalkedEvent) (bytes : List ℕ) (v : NetworkValue) : Type 0 where
  pub turns : List WalkedTurn
  pub events_are : map (λ (t : WalkedTurn). t.event) turns ≡ events
  pub runs : WalkedRunFrom (one_plan plan) w turns
  pub stands : StandsForWalked v (walked_after w turns)
  pub file : bytes ≡ written_file (hops_from plan w 1 turns)

pub captured_none : (plan : Plan) (w : WalkedState) (bytes : List ℕ) (v : NetworkValue) → StandsForWalked v w → bytes ≡ written_file []
    → HasCaptured plan w [] bytes v
captured_none plan w bytes v stands file = record { turns = []; events_are = refl; runs = tt; stands = stands; file = file }

-- one event more
module _ (plan : Plan) (w : WalkedState) (events : List WalkedEvent) (bytes : List ℕ) (v : NetworkValue) (before : HasCaptured plan w events bytes v)
    (event : WalkedEvent) (outcome : WalkedOutcome) (bytes' : List ℕ) (v' : NetworkValue) (departure : Option Departure)
    (plays : WalkedPlays (one_plan plan) v event outcome v')
    (departs : (x : WalkedState) → StandsForWalked v x → IsDeparture x event departure) where
  abbrev x : WalkedState
  x = walked_after w before.turns

  abbrev step : (next : WalkedState) × WalkedStep (one_plan plan) x event outcome next × StandsForWalked v' next
  step = plays x before.stands

  abbrev turn : WalkedTurn
  turn = record { event = event; outcome = outcome; after = step.0 }

  pub captured_more : (n : ℕ) → n ≡ length events + 1
      → bytes' ≡ bytes ++ flat_map written_bytes (option_to_list (hop_between plan n (option_map departure_value departure) (arriving outcome)))
      → HasCaptured plan w (events ++ event ∷ []) bytes' v'
  captured_more n number file =
      let many : length before.turns ≡ length events = sym (length-map before.turns (λ (t : WalkedTurn). t.event)) ∙ ap length before.events_are in
      let number_is : n ≡ 1 + length before.turns = omega (arith, number, many) in
      let hop : hop_between plan n (option_map departure_value departure) (arriving outcome) ≡ hop_of plan x (1 + length before.turns) turn =
      ap (λ d. hop_between plan n d (arriving outcome)) (departs x before.stands) ∙ ap (λ m. hop_between plan m (departing x event) (arriving outcome)) number_is in
      record {
        turns = before.turns ++ turn ∷ [];
        events_are = map-append (λ (t : WalkedTurn). t.event) before.turns (turn ∷ []) ∙ ap (λ es. es ++ event ∷ []) before.events_are;
        runs = run_joins (one_plan plan) w before.turns (turn ∷ []) before.runs (step.1, tt);
        stands = subst (StandsForWalked v') (sym (after_more w before.turns turn)) step.2;
        file = file ∙ ap (λ h. bytes ++ flat_map written_bytes (option_to_list h)) hop
            ∙ ap (λ b. b ++ flat_map written_bytes (option_to_list (hop_of plan x (1 + length before.turns) turn))) before.file
            ∙ sym (file_more (hops_from plan w 1 before.turns) (option_to_list (hop_of plan x (1 + length before.turns) turn)))
            ∙ ap written_file (sym (hops_more plan w 1 before.turns turn));
      }

-- ---- the events of a list

module _ (plan : Plan) (w : WalkedState) (events : List Event) (i : ℕ) (e : Event) (within : i < length events) (is : e ≡ get_or events i e) where
  there : slice_get (map event_value events) i ≡ Some (event_value e)
  there = slice_get-map event_value events i ∙ ap (option_map event_value) (slice_get-get_or events i e within ∙ ap Some (sym is))

  one_more : take (i + 1) (map event_value events) ≡ take i (map event_value events) ++ event_value e ∷ []
  one_more =
      take_more (map event_value events) i (event_value e) (omega (arith, within, length-map events event_value))
      ∙ ap (λ x. take i (map event_value events) ++ x ∷ []) (get_or_from_slice_get (map event_value events) i (event_value e) (event_value e) there)

  pub captured_next : (bytes bytes' : List ℕ) (v v' : NetworkValue) (outcome : WalkedOutcome) (departure : Option Departure)
      → HasCaptured plan w (take i (map event_value events)) bytes v → WalkedPlays (one_plan plan) v (event_value e) outcome v'
      → ((x : WalkedState) → StandsForWalked v x → IsDeparture x (event_value e) departure)
      → bytes' ≡ bytes ++ flat_map written_bytes (option_to_list (hop_between plan (i + 1) (option_map departure_value departure) (arriving outcome)))
      → HasCaptured plan w (take (i + 1) (map event_value events)) bytes' v'
  captured_next bytes bytes' v v' outcome departure before plays departs file =
      let all = length-map events event_value in
      let many : i ≡ length (take i (map event_value events)) = sym (length-take-le i (map event_value events) (omega (arith, within, all))) in
      subst (λ es. HasCaptured plan w es bytes' v') (sym one_more)
      (captured_more plan w (take i (map event_value events)) bytes v before (event_value e) outcome bytes' v' departure plays departs (i + 1) (ap (λ n. n + 1) many) file)

-- what was added is what the plan of another name adds
pub added : (plan plan' : Plan) → plan' ≡ plan → (n : ℕ) (d : Option DepartureValue) (next : Option ℕ) (bytes bytes' : List ℕ)
    → bytes' ≡ bytes ++ flat_map written_bytes (option_to_list (hop_between plan' n d next))
    → bytes' ≡ bytes ++ flat_map written_bytes (option_to_list (hop_between plan n d next))
added plan plan' same n d next bytes bytes' is =
    is ∙ ap (λ (p : Plan). bytes ++ flat_map written_bytes (option_to_list (hop_between p n d next))) same

-- all events were played
pub captured_all : (plan : Plan) (cert : Certificate) (events : List WalkedEvent) (i : ℕ) (bytes : List ℕ) (v : NetworkValue) → length events ≤ i
    → HasCaptured plan (walked_at_start plan cert) (take i events) bytes v → IsRunFile plan cert events bytes
captured_all plan cert events i bytes v past captured =
    record { turns = captured.turns; events_are = captured.events_are ∙ take_all i events past; runs = captured.runs; file = captured.file }
