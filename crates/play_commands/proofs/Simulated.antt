-- Lines of outcomes, and runs of which they are.
use Rattle.std.{proofs.Common.{◌≡◌, ℕ, zero, suc, ◌+◌, ◌<◌, ◌≤◌, List, [], ◌∷◌, ◌++◌, length, map, take, drop, get_or, Option, Some, Result, Ok, Err, refl, sym, ◌∙◌, ap, subst, append_assoc, append-nil, arith}, specs.Prelude.{slice_get, option_map, IfErr, OnOk, OnErr}, specs.Io.KnownBytes.{Appends}, proofs.KnownBytes.{Appends-nil}, proofs.lemmas.List.{take-append-drop, length-map, length-take-le, take_more, take_all, take-map}, proofs.lemmas.Option.{slice_get-map, slice_get-get_or, get_or_from_slice_get}}
use Rattle.plan_values.{specs.declared.plan.Plan.{Plan}, specs.declared.certificate.Certificate.{Certificate}}
use Rattle.net_plan.specs.Stream.{AppendsBeginning}
use Rattle.command_answers.{specs.Gathering.{AppendsAllBut}, proofs.Waiting.{added_after, begins_after, begins_at_end, given_at_end}, specs.declared.refused.Refused.{Refused}, specs.Answers.{Stream, Fails, BreaksOff}, proofs.Telling.{breaks_off_also}}
use Rattle.net_runs.{specs.WalkedRuns.{WalkedTurn, WalkedRunFrom}, specs.Walkers.{WalkedState, WalkedEvent, WalkedOutcome, walked_at_start}}
use Rattle.net_tables.specs.TwoPlans.{Tables}
use Rattle.net_sim.{specs.declared.outcome.Outcome.{Outcome}, specs.Outcomes.{outcome_value}, specs.Played.{IsRunOf}, specs.WalkedStanding.{NetworkValue, StandsForWalked}, specs.Walks.{HaveWalked, PlaysWalks}}
use Rattle.run_texts.specs.OutcomeLines.{outcome_line, lines_from, outcome_lines}
use Rattle.play_commands.specs.Simulating.{IsRunText, ShowsRun, ShowsBeginning, ShowsWalks, ShowsBegunWalks, IsWalksText, ShowsAllOr, AreFirstLines, ShowsLines}
use Rattle.command_answers.specs.declared.refused.Refused.TheVariants as refused

-- ---- lines

lines_more : (plan : Plan) (number : ℕ) (outcomes : List WalkedOutcome) (outcome : WalkedOutcome)
    → lines_from plan number (outcomes ++ outcome ∷ []) ≡ lines_from plan number outcomes ++ outcome_line plan (number + length outcomes) outcome
lines_more plan number [] outcome =
    append-nil (outcome_line plan number outcome) ∙ ap (λ n. outcome_line plan n outcome) (let same : number ≡ number + 0 = omega arith in same)
lines_more plan number (first ∷ outcomes) outcome =
    let further : number + 1 + length outcomes ≡ number + length (first ∷ outcomes) = omega arith in
    ap (λ z. outcome_line plan number first ++ z) (lines_more plan (number + 1) outcomes outcome)
    ∙ (sym (append_assoc (outcome_line plan number first) (lines_from plan (number + 1) outcomes) (outcome_line plan (number + 1 + length outcomes) outcome))
    ∙ ap (λ n. outcome_line plan number first ++ lines_from plan (number + 1) outcomes ++ outcome_line plan n outcome) further)

module _ (plan : Plan) (outcomes : List Outcome) (index : ℕ) (outcome : Outcome) (within : index < length outcomes) (is : outcome ≡ get_or outcomes index outcome) where
  there : slice_get (map outcome_value outcomes) index ≡ Some (outcome_value outcome)
  there = slice_get-map outcome_value outcomes index ∙ ap (option_map outcome_value) (slice_get-get_or outcomes index outcome within ∙ ap Some (sym is))

  one_more : take (index + 1) (map outcome_value outcomes) ≡ take index (map outcome_value outcomes) ++ outcome_value outcome ∷ []
  one_more =
      take_more (map outcome_value outcomes) index (outcome_value outcome) (omega (arith, length-map outcomes outcome_value))
      ∙ ap (λ x. take index (map outcome_value outcomes) ++ x ∷ []) (get_or_from_slice_get (map outcome_value outcomes) index (outcome_value outcome) (outcome_value outcome) there)

  many : length (take index (map outcome_value outcomes)) ≡ index
  many = length-take-le index (map outcome_value outcomes) (omega (arith, length-map outcomes outcome_value, within))

  -- the lines of so many outcomes, and that of the next
  pub all_lines : (line : List ℕ) → line ≡ outcome_line plan (index + 1) (outcome_value outcome)
      → outcome_lines plan (take index (map outcome_value outcomes)) ++ line ≡ outcome_lines plan (take (index + 1) (map outcome_value outcomes))
  all_lines line told =
      let before_it = take index (map outcome_value outcomes) in
      let number : 1 + length before_it ≡ index + 1 = omega (arith, many) in
      ap (λ z. outcome_lines plan before_it ++ z) (told ∙ ap (λ n. outcome_line plan n (outcome_value outcome)) (sym number))
      ∙ (sym (lines_more plan 1 before_it (outcome_value outcome)) ∙ ap (outcome_lines plan) (sym one_more))

  -- the output was given all lines so far but for the end of the last line, which waits
  pub shows_more : (line waiting waiting' : List ℕ) (old mid new : Option (List ℕ)) → line ≡ outcome_line plan (index + 1) (outcome_value outcome)
      → AppendsAllBut waiting old mid (outcome_lines plan (take index (map outcome_value outcomes))) → AppendsAllBut waiting' mid new (waiting ++ line)
      → AppendsAllBut waiting' old new (outcome_lines plan (take (index + 1) (map outcome_value outcomes)))
  shows_more line waiting waiting' old mid new told before added =
      subst (AppendsAllBut waiting' old new) (all_lines line told) (added_after _ line waiting waiting' old mid new before added)

  -- a beginning of the lines that waited and the next one, where the output fails in them
  pub breaks_in_line : (line waiting : List ℕ) (output middle : Stream) → line ≡ outcome_line plan (index + 1) (outcome_value outcome)
      → AppendsAllBut waiting output.before.bytes middle.before.bytes (outcome_lines plan (take index (map outcome_value outcomes)))
      → AppendsBeginning middle.before.bytes output.after.bytes (waiting ++ line) → Fails output
      → BreaksOff (AreFirstLines plan (map outcome_value outcomes)) output
  breaks_in_line line waiting output middle told before part fails = record {
    text = outcome_lines plan (take (index + 1) (map outcome_value outcomes));
    answer = (index + 1, refl);
    fails = fails;
    beginning = subst (AppendsBeginning output.before.bytes output.after.bytes) (all_lines line told) (begins_after _ line waiting output.before.bytes middle.before.bytes output.after.bytes before part);
  }

-- a beginning of the lines that waited, where the output fails in them
pub breaks_in_waiting : (plan : Plan) (outcomes : List WalkedOutcome) (count : ℕ) (waiting : List ℕ) (output middle : Stream)
    → AppendsAllBut waiting output.before.bytes middle.before.bytes (outcome_lines plan (take count outcomes)) → AppendsBeginning middle.before.bytes output.after.bytes waiting
    → Fails output → BreaksOff (AreFirstLines plan outcomes) output
breaks_in_waiting plan outcomes count waiting output middle before part fails = record {
  text = outcome_lines plan (take count outcomes);
  answer = (count, refl);
  fails = fails;
  beginning = begins_at_end _ waiting output.before.bytes middle.before.bytes output.after.bytes before part;
}

-- all lines are out, where those that waited were written
pub ends_written : (P : Type 0) (plan : Plan) (outcomes : List WalkedOutcome) (index count : ℕ) (waiting : List ℕ) (output middle : Stream) (result : Result (Unit {0}) Refused)
    → index ≡ count → AppendsAllBut waiting output.before.bytes middle.before.bytes (outcome_lines plan (take index outcomes))
    → OnOk result (Appends middle.before.bytes output.after.bytes waiting) → IfErr result (λ why. why ≡ refused.Unwritten)
    → OnErr result (AppendsBeginning middle.before.bytes output.after.bytes waiting) → OnErr result (output.after.failures ≡ middle.before.failures + 1)
    → middle.before.failures ≡ output.before.failures → ShowsAllOr result P (ShowsLines plan outcomes count output) (AreFirstLines plan outcomes) output
ends_written P plan outcomes index count waiting output middle (Ok done) all before written unwritten part fails kept =
    let A : ℕ → Type 0 = λ n. ShowsLines plan outcomes n output in
    subst A all (given_at_end _ waiting output.before.bytes middle.before.bytes output.after.bytes before written)
ends_written P plan outcomes index count waiting output middle (Err why) all before written unwritten part fails kept =
    let A : Refused → Type 0 = λ w. ShowsAllOr {T = Unit {0}} (Err w) P (ShowsLines plan outcomes count output) (AreFirstLines plan outcomes) output in
    subst A (sym unwritten) (breaks_in_waiting plan outcomes index waiting output middle before part (fails ∙ ap (λ n. n + 1) kept))

-- ---- runs

take_twice : {A : Type 0} (k n : ℕ) (xs : List A) → (m : ℕ) × (take k (take n xs) ≡ take m xs)
take_twice zero n xs = (0, refl)
take_twice (suc k) zero xs = (0, refl)
take_twice (suc k) (suc n) [] = (0, refl)
take_twice (suc k) (suc n) (x ∷ xs) =
    let (m, is) = take_twice k n xs in (suc m, ap (λ ys. x ∷ ys) is)

-- each beginning of a run is a run
run_begins : (tables : Tables) (w : WalkedState) (k : ℕ) (turns : List WalkedTurn) → WalkedRunFrom tables w turns → WalkedRunFrom tables w (take k turns)
run_begins tables w zero turns run = tt
run_begins tables w (suc k) [] run = tt
run_begins tables w (suc k) (turn ∷ turns) (step, rest) = (step, run_begins tables turn.after k turns rest)

module _ (tables : Tables) (w : WalkedState) (events : List WalkedEvent) (output : Stream) where
  -- the lines of some of the outcomes of a run over some of the events
  abbrev begun_run : (new : NetworkValue) (n : ℕ) (outcomes : List WalkedOutcome) (k : ℕ) → IsRunOf tables w (take n events) outcomes new
      → ShowsLines tables.plan outcomes k output → ShowsRun tables w (take (take_twice k n events).0 events) output
  begun_run new n outcomes k run shown =
      let S : List WalkedOutcome → Type 0 = λ os. Appends output.before.bytes output.after.bytes (outcome_lines tables.plan os) in
      record {
        turns = take k run.turns;
        events_are = sym (take-map (λ (t : WalkedTurn). t.event) k run.turns) ∙ (ap (take k) run.events_are ∙ (take_twice k n events).1);
        runs = run_begins tables w k run.turns run.runs;
        shown = subst S (ap (take k) (sym run.outcomes_are) ∙ take-map (λ (t : WalkedTurn). t.outcome) k run.turns) shown;
      }

  abbrev text_of_run : (new : NetworkValue) (n : ℕ) (outcomes : List WalkedOutcome) (text : List ℕ) → IsRunOf tables w (take n events) outcomes new
      → AreFirstLines tables.plan outcomes text → IsRunText tables w events text
  text_of_run new n outcomes text run lines =
      let k = lines.0 in
      record {
        played = (take_twice k n events).0;
        turns = take k run.turns;
        events_are = sym (take-map (λ (t : WalkedTurn). t.event) k run.turns) ∙ (ap (take k) run.events_are ∙ (take_twice k n events).1);
        runs = run_begins tables w k run.turns run.runs;
        written = lines.1 ∙ ap (outcome_lines tables.plan) (ap (take k) (sym run.outcomes_are) ∙ take-map (λ (t : WalkedTurn). t.outcome) k run.turns);
      }

  -- the lines of all outcomes of a run over all events
  abbrev whole_run : (new : NetworkValue) (n : ℕ) (outcomes : List WalkedOutcome) (k : ℕ) → length events ≤ n → length outcomes ≤ k
      → IsRunOf tables w (take n events) outcomes new → ShowsLines tables.plan outcomes k output → ShowsRun tables w events output
  whole_run new n outcomes k all_events all_outcomes run shown =
      let S : List WalkedOutcome → Type 0 = λ os. Appends output.before.bytes output.after.bytes (outcome_lines tables.plan os) in
      record {
        turns = run.turns;
        events_are = run.events_are ∙ take_all n events all_events;
        runs = run.runs;
        shown = subst S (take_all k outcomes all_outcomes ∙ sym run.outcomes_are) shown;
      }

  pub shows_beginning : (new : NetworkValue) (n : ℕ) (outcomes : List WalkedOutcome) (k : ℕ) → IsRunOf tables w (take n events) outcomes new
      → ShowsLines tables.plan outcomes k output → ShowsBeginning tables w events output
  shows_beginning new n outcomes k run shown = ((take_twice k n events).0, begun_run new n outcomes k run shown)

  pub run_text : (new : NetworkValue) (n : ℕ) (outcomes : List WalkedOutcome) (text : List ℕ) → IsRunOf tables w (take n events) outcomes new
      → AreFirstLines tables.plan outcomes text → IsRunText tables w events text
  run_text new n outcomes text run lines = text_of_run new n outcomes text run lines

  pub shows_run : (new : NetworkValue) (n : ℕ) (outcomes : List WalkedOutcome) (k : ℕ) → length events ≤ n → length outcomes ≤ k
      → IsRunOf tables w (take n events) outcomes new → ShowsLines tables.plan outcomes k output → ShowsRun tables w events output
  shows_run new n outcomes k all_events all_outcomes run shown = whole_run new n outcomes k all_events all_outcomes run shown

  -- nothing was played, and nothing is out
  abbrev empty_run : output.before.bytes ≡ output.after.bytes → ShowsRun tables w [] output
  empty_run same =
      let A : Option (List ℕ) → Type 0 = λ new. Appends output.before.bytes new [] in
      record { turns = []; events_are = refl; runs = tt; shown = subst A same (Appends-nil output.before.bytes) }

  pub shows_nothing : output.before.bytes ≡ output.after.bytes → ShowsBeginning tables w events output
  shows_nothing same = (0, empty_run same)

-- ---- runs in which the walkers have walked

module _ (tables : Tables) (cert : Certificate) where
  -- so they have in each beginning of such a run
  walked_before : (k : ℕ) (turns : List WalkedTurn) → HaveWalked tables cert turns → HaveWalked tables cert (take k turns)
  walked_before k turns walked = λ earlier later rest begins j node eid tag count n is.
      walked earlier later (rest ++ drop k turns) begins j node eid tag count n
      (sym (take-append-drop k turns) ∙ (ap (λ ts. ts ++ drop k turns) is ∙ append_assoc (earlier ++ begins ∷ later) rest (drop k turns)))

  -- and where nothing was played
  walked_nowhere : HaveWalked tables cert []
  walked_nowhere [] later rest begins j node eid tag count n is = absurd (cc)
  walked_nowhere (first ∷ earlier) later rest begins j node eid tag count n is = absurd (cc)

  module _ (events : List WalkedEvent) (output : Stream) where
    pub shows_begun_walks : (new : NetworkValue) (n : ℕ) (outcomes : List WalkedOutcome) (k : ℕ)
        → (run : IsRunOf tables (walked_at_start tables.plan cert) (take n events) outcomes new) → HaveWalked tables cert run.turns
        → ShowsLines tables.plan outcomes k output → ShowsBegunWalks tables cert events output
    shows_begun_walks new n outcomes k run walked shown = (
      (take_twice k n events).0,
      (begun_run tables (walked_at_start tables.plan cert) events output new n outcomes k run shown, walked_before k run.turns walked),
    )

    pub walks_text : (new : NetworkValue) (n : ℕ) (outcomes : List WalkedOutcome) (text : List ℕ)
        → (run : IsRunOf tables (walked_at_start tables.plan cert) (take n events) outcomes new) → HaveWalked tables cert run.turns
        → AreFirstLines tables.plan outcomes text → IsWalksText tables cert events text
    walks_text new n outcomes text run walked lines = (
      text_of_run tables (walked_at_start tables.plan cert) events output new n outcomes text run lines,
      walked_before lines.0 run.turns walked,
    )

    pub shows_walks : (new : NetworkValue) (n : ℕ) (outcomes : List WalkedOutcome) (k : ℕ) → length events ≤ n → length outcomes ≤ k
        → (run : IsRunOf tables (walked_at_start tables.plan cert) (take n events) outcomes new) → HaveWalked tables cert run.turns
        → ShowsLines tables.plan outcomes k output → ShowsWalks tables cert events output
    shows_walks new n outcomes k all_events all_outcomes run walked shown =
        (whole_run tables (walked_at_start tables.plan cert) events output new n outcomes k all_events all_outcomes run shown, walked)

    pub shows_no_walks : output.before.bytes ≡ output.after.bytes → ShowsBegunWalks tables cert events output
    shows_no_walks same = (0, (empty_run tables (walked_at_start tables.plan cert) events output same, walked_nowhere))

-- the run that a network plays from the start is one in which the walkers have walked
pub walks_in : (checked checked' : Tables × Certificate) (events : List WalkedEvent) (outcomes : List WalkedOutcome) (old new : NetworkValue)
    → checked' ≡ checked → StandsForWalked old (walked_at_start checked.0.plan checked.1) → PlaysWalks checked'.0 checked'.1 old events outcomes new
    → (run : IsRunOf checked.0 (walked_at_start checked.0.plan checked.1) events outcomes new) × HaveWalked checked.0 checked.1 run.turns
walks_in checked checked' events outcomes old new same stands plays =
    let P : Tables × Certificate → Type 0 = λ c. PlaysWalks c.0 c.1 old events outcomes new in
    let went = subst P same plays [] tt stands in
    (went.0, went.1 went.0)

-- the part that is shown where not all is may be told otherwise
pub cut_short : (why : Refused) (P A P' A' : Type 0) (Q Q' : List ℕ → Type 0) (output : Stream) → ShowsAllOr {T = Unit {0}} (Err why) P A Q output → (P → P')
    → ((text : List ℕ) → Q text → Q' text) → ShowsAllOr {T = Unit {0}} (Err why) P' A' Q' output
cut_short refused.Usage P A P' A' Q Q' output h other also = h
cut_short (refused.Unreadable unread cause) P A P' A' Q Q' output h other also = h
cut_short refused.UnknownNode P A P' A' Q Q' output h other also = h
cut_short refused.UnreadableHex P A P' A' Q Q' output h other also = h
cut_short refused.TooMuch P A P' A' Q Q' output h other also = h
cut_short refused.Unwritten P A P' A' Q Q' output h other also = breaks_off_also Q Q' output also h
cut_short refused.NoMemory P A P' A' Q Q' output h other also = other h

-- ---- the same of another name of the plan

pub lines_in : (plan plan' : Plan) (outcomes outcomes' : List Outcome) (count : ℕ) (output : Stream) → plan' ≡ plan → outcomes' ≡ outcomes
    → ShowsLines plan' (map outcome_value outcomes') count output → ShowsLines plan (map outcome_value outcomes) count output
lines_in plan plan' outcomes outcomes' count output same listed shown =
    let P : List Outcome → Type 0 = λ os. ShowsLines plan (map outcome_value os) count output in
    let Q : Plan → Type 0 = λ p. ShowsLines p (map outcome_value outcomes') count output in
    subst P listed (subst Q same shown)

pub first_lines_in : (plan plan' : Plan) (outcomes outcomes' : List Outcome) (text : List ℕ) → plan' ≡ plan → outcomes' ≡ outcomes
    → AreFirstLines plan' (map outcome_value outcomes') text → AreFirstLines plan (map outcome_value outcomes) text
first_lines_in plan plan' outcomes outcomes' text same listed (k, is) =
    (k, is ∙ (ap (λ (p : Plan). outcome_lines p (take k (map outcome_value outcomes'))) same ∙ ap (λ os. outcome_lines plan (take k (map outcome_value os))) listed))
