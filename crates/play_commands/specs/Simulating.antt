-- What the end of `sim` says of the events that were played and of what was written.
use Rattle.std.{specs.Prelude.{◌≡◌, ◌⊎◌, ℕ, List, map, take, Result, Ok, Err, ⊤}, specs.Io.KnownBytes.{Appends}}
use Rattle.plan_values.{specs.declared.plan.Plan.{Plan}, specs.declared.certificate.Certificate.{Certificate}, specs.declared.event.Event.{Event}}
use Rattle.net_check.specs.Accepted.{IsAccepted}
use Rattle.net_tables.specs.TwoPlans.{Tables, one_plan}
use Rattle.net_runs.{specs.WalkedRuns.{WalkedTurn, WalkedRunFrom}, specs.Walkers.{WalkedState, WalkedEvent, WalkedOutcome, walked_at_start}}
use Rattle.net_sim.{specs.Outcomes.{event_value}, specs.Promised.{IsPromised}, specs.Walks.{HaveWalked}}
use Rattle.command_answers.{specs.declared.refused.Refused.{Refused}, specs.declared.status.Status.{Status}, specs.Answers.{Stream, BreaksOff, AreGiven, AreUnread, IsFaultText, IsReported, SaysWhy}, specs.Told.{IsUngivenFor}, specs.Inputs.{GaveEvents, AreEventsUnread}}
use Rattle.run_texts.specs.OutcomeLines.{outcome_lines}
use Rattle.command_answers.specs.declared.refused.Refused.TheVariants as refused
use Rattle.command_answers.specs.declared.status.Status.TheVariants as status

-- The events are those of a run from the state, and the output was given the lines of what came of them.
pub record ShowsRun (tables : Tables) (w : WalkedState) (events : List WalkedEvent) (output : Stream) : Type 0 where
  pub turns : List WalkedTurn
  pub events_are : map (λ (t : WalkedTurn). t.event) turns ≡ events
  pub runs : WalkedRunFrom tables w turns
  pub shown : Appends output.before.bytes output.after.bytes
      (outcome_lines tables.plan (map (λ (t : WalkedTurn). t.outcome) turns))

-- so it is of a beginning of the events
abbrev pub ShowsBeginning : Tables → WalkedState → List WalkedEvent → Stream → Type 0
ShowsBeginning tables w events output = (played : ℕ) × ShowsRun tables w (take played events) output

-- The text is the lines of what comes of a beginning of the events, in a run from the state.
pub record IsRunText (tables : Tables) (w : WalkedState) (events : List WalkedEvent) (text : List ℕ) : Type 0 where
  pub played : ℕ
  pub turns : List WalkedTurn
  pub events_are : map (λ (t : WalkedTurn). t.event) turns ≡ take played events
  pub runs : WalkedRunFrom tables w turns
  pub written : text ≡ outcome_lines tables.plan (map (λ (t : WalkedTurn). t.outcome) turns)

-- The run that is shown is one from the start, in which the walkers have walked.
abbrev pub ShowsWalks : Tables → Certificate → List WalkedEvent → Stream → Type 0
ShowsWalks tables cert events output =
    (shown : ShowsRun tables (walked_at_start tables.plan cert) events output) × HaveWalked tables cert shown.turns

-- so it is of a beginning of the events
abbrev pub ShowsBegunWalks : Tables → Certificate → List WalkedEvent → Stream → Type 0
ShowsBegunWalks tables cert events output = (played : ℕ) × ShowsWalks tables cert (take played events) output

-- The text is the lines of what comes of a beginning of the events, in such a run.
abbrev pub IsWalksText : Tables → Certificate → List WalkedEvent → List ℕ → Type 0
IsWalksText tables cert events text =
    (told : IsRunText tables (walked_at_start tables.plan cert) events text) × HaveWalked tables cert told.turns

-- All is shown; or the output failed after a beginning of such a text; or memory ran out, and then a part is shown.
abbrev pub ShowsAllOr : {T : Type 0} → Result T Refused → (part all : Type 0) → (List ℕ → Type 0) → Stream → Type 0
ShowsAllOr (Ok done) part all IsText output = all
ShowsAllOr (Err refused.Unwritten) part all IsText output = BreaksOff IsText output
ShowsAllOr (Err refused.NoMemory) part all IsText output = part
ShowsAllOr (Err _) part all IsText output = ⊥

-- the same of the end of a run of the program
abbrev pub EndsShowing : Status → (part all : Type 0) → (List ℕ → Type 0) → Stream → Type 0
EndsShowing status.Yes part all IsText output = all
EndsShowing status.Fault part all IsText output = ⊥
EndsShowing status.Unreadable part all IsText output = BreaksOff IsText output
EndsShowing status.NoMemory part all IsText output = part

-- what is shown of the events, in runs by these tables from the state
abbrev pub PlaysFrom : {T : Type 0} → Tables → WalkedState → List WalkedEvent → Result T Refused → Stream → Type 0
PlaysFrom tables w events result output =
    ShowsAllOr result (ShowsBeginning tables w events output) (ShowsRun tables w events output)
    (IsRunText tables w events) output

-- so it is from the start, in runs in which the walkers have walked
abbrev pub PlaysBy : {T : Type 0} → Tables → Certificate → List WalkedEvent → Result T Refused → Stream → Type 0
PlaysBy tables cert events result output =
    ShowsAllOr result (ShowsBegunWalks tables cert events output) (ShowsWalks tables cert events output)
    (IsWalksText tables cert events) output

-- the same of the end of a run of the program
abbrev pub SimulatesFrom : Tables → WalkedState → List WalkedEvent → Status → Stream → Type 0
SimulatesFrom tables w events ended output =
    EndsShowing ended (ShowsBeginning tables w events output) (ShowsRun tables w events output)
    (IsRunText tables w events) output

abbrev pub SimulatesBy : Tables → Certificate → List WalkedEvent → Status → Stream → Type 0
SimulatesBy tables cert events ended output =
    EndsShowing ended (ShowsBegunWalks tables cert events output) (ShowsWalks tables cert events output)
    (IsWalksText tables cert events) output

-- where the lines of outcomes are not all out, it is reported that the output failed, or want of memory
abbrev pub ReportsPlay : Status → Stream → Type 0
ReportsPlay status.Yes errors = ⊤
ReportsPlay status.Fault errors = ⊤
ReportsPlay status.Unreadable errors = IsReported refused.Unwritten errors
ReportsPlay status.NoMemory errors = IsReported refused.NoMemory errors

-- the output was given the lines of so many of the outcomes
abbrev pub ShowsLines : Plan → List WalkedOutcome → ℕ → Stream → Type 0
ShowsLines plan outcomes count output =
    Appends output.before.bytes output.after.bytes (outcome_lines plan (take count outcomes))

-- the text is the lines of some of the outcomes, from the first on
abbrev pub AreFirstLines : Plan → List WalkedOutcome → List ℕ → Type 0
AreFirstLines plan outcomes text = (count : ℕ) × (text ≡ outcome_lines plan (take count outcomes))

-- why the inputs were not read; the events are read only where the plan and the certificate were given
abbrev pub AreUnreadAmong : Refused → Stream → Stream → Stream → Type 0
AreUnreadAmong why plans certificates happenings = AreUnread why plans certificates
    ⊎ ((plan : Plan) × (certificate : Certificate) × AreGiven plans certificates plan certificate
    × AreEventsUnread why plan happenings)

-- ---- answers that are written as they are found

-- What was written for an answer, by how the run is to end or by why it broke off: what is run, or a fault; or the
-- output failed in an answer; or memory ran out, and nothing was written or a part; or an input was not read, and
-- nothing was written.
abbrev pub PlaysSo : (Runs : Status → Stream → Type 0) → (IsFault IsText : List ℕ → Type 0) → (Refused → Type 0)
    → (nothing : Type 0) → Result Status Refused → Stream → Type 0
PlaysSo Runs IsFault IsText IsUnread nothing (Ok status.Yes) output = Runs status.Yes output
PlaysSo Runs IsFault IsText IsUnread nothing (Ok status.Fault) output =
    (text : List ℕ) × IsFault text × Appends output.before.bytes output.after.bytes text
PlaysSo Runs IsFault IsText IsUnread nothing (Ok _) output = ⊥
PlaysSo Runs IsFault IsText IsUnread nothing (Err refused.Unwritten) output = BreaksOff IsText output
PlaysSo Runs IsFault IsText IsUnread nothing (Err refused.NoMemory) output = nothing ⊎ Runs status.NoMemory output
PlaysSo Runs IsFault IsText IsUnread nothing (Err why) output = nothing × IsUnread why

-- what the end of a run says of such an answer, and of what was written on both outputs
abbrev pub EndsPlay : (Runs : Status → Stream → Type 0) → (IsFault : List ℕ → Type 0) → (Refused → Type 0)
    → Status → (output errors : Stream) → Type 0
EndsPlay Runs IsFault IsUnread status.Yes output errors = Runs status.Yes output
EndsPlay Runs IsFault IsUnread status.Fault output errors =
    (text : List ℕ) × IsFault text × Appends output.before.bytes output.after.bytes text
EndsPlay Runs IsFault IsUnread status.Unreadable output errors = SaysWhy (IsUngivenFor IsUnread output) errors
EndsPlay Runs IsFault IsUnread status.NoMemory output errors = IsReported refused.NoMemory errors

-- What the end of a run says of such an answer, of the outputs, and of where they are as they were.
pub record ConcludesPlay (Runs : Status → Stream → Type 0) (IsFault IsText : List ℕ → Type 0)
    (IsUnread : Refused → Type 0) (ended : Status) (output errors : Stream) (untouched quiet : Type 0) : Type 0 where
  pub simulates : EndsPlay Runs IsFault IsUnread ended output errors
  pub silent : (ended ≡ status.Yes) ⊎ (ended ≡ status.Fault) → quiet
  pub unwritten : ended ≡ status.Unreadable → untouched ⊎ BreaksOff IsText output
  pub partly_runs : ended ≡ status.NoMemory → untouched ⊎ Runs status.NoMemory output

-- ---- of what is accepted, a plan or a move

-- Every rule holds, every run of the network is as promised, and what was written is what comes of the events, in such
-- runs, in which the walkers have walked.
abbrev pub RunsIn : Tables → Certificate → List WalkedEvent → Status → Stream → Type 0
RunsIn tables cert events ended output =
    IsAccepted tables cert × IsPromised tables cert × SimulatesBy tables cert events ended output

-- Every rule holds, and the text is the lines of what comes of a beginning of the events, in such a run.
abbrev pub IsTextIn : Tables → Certificate → List WalkedEvent → List ℕ → Type 0
IsTextIn tables cert events text = IsAccepted tables cert × IsWalksText tables cert events text

-- ---- of a plan, its certificate and events

-- so it is of the plan's network
abbrev pub RunsOn : Plan → Certificate → List WalkedEvent → Status → Stream → Type 0
RunsOn plan = RunsIn (one_plan plan)

-- The text answers on them: where every rule holds it is the lines of what comes of a beginning of the events, in a run
-- of the plan's network in which the walkers have walked, else the line of the first fault.
abbrev pub IsPlayText : Plan → Certificate → List WalkedEvent → List ℕ → Type 0
IsPlayText plan certificate events text =
    IsTextIn (one_plan plan) certificate events text ⊎ IsFaultText plan certificate text

-- the sources gave a plan, its certificate and events at its nodes, of which this is so
abbrev pub AreOfFiles : (Plan → Certificate → List WalkedEvent → Type 0) → Stream → Stream → Stream → Type 0
AreOfFiles IsSo plans certificates happenings = (plan : Plan) × (certificate : Certificate) × (events : List Event)
    × AreGiven plans certificates plan certificate × GaveEvents plan happenings events
    × IsSo plan certificate (map event_value events)

abbrev pub TellsRun : Stream → Stream → Stream → Status → Stream → Type 0
TellsRun plans certificates happenings ended output =
    AreOfFiles (λ plan certificate events. RunsOn plan certificate events ended output) plans certificates happenings

abbrev pub IsSimFault : Stream → Stream → Stream → List ℕ → Type 0
IsSimFault plans certificates happenings text =
    AreOfFiles (λ plan certificate events. IsFaultText plan certificate text) plans certificates happenings

abbrev pub IsSimAnswer : Stream → Stream → Stream → List ℕ → Type 0
IsSimAnswer plans certificates happenings text =
    AreOfFiles (λ plan certificate events. IsPlayText plan certificate events text) plans certificates happenings
