-- What `script` answers on a plan and its certificate.
use Rattle.std.specs.Prelude.{◌≡◌, ◌≢◌, ◌⊎◌, ℕ, ◌-◌, ◌≤◌, List, ◌∷◌, length, map, slice_get, Option, Some, None, All, Err, ⊤, MatchOption, codes, string_bytes}
use Rattle.pdr_repository.{specs.declared.walk_fault.WalkFault.{WalkFault}, specs.declared.walk_fault.WalkFault.TheVariants.{NotAsked}}
use Rattle.net_plan.{specs.declared.error.PlanError.{PlanError}, specs.EventReading.{events as read_events}, specs.EventText.{AreEventsOf}, specs.Refusals.{IsRefused}, specs.Texts.{IsJsonTextOf}, specs.Limits.{most_events}}
use Rattle.plan_values.{specs.declared.certificate.Certificate.{Certificate}, specs.declared.event.Event.{Event}, specs.declared.plan.Plan.{Plan}, specs.EventValues.{event_entry}, specs.PlanValues.{plan_value, node_names}}
use Rattle.net_rules.{specs.Names.{name_of}, specs.Rules.{Accepts}}
use Rattle.net_runs.{specs.Events.{OutcomeValue}, specs.WalkedRuns.{WalkedTurn, WalkedRunFrom}, specs.Walkers.{WalkedEvent, Happening, BeginWalk, Ask, TellWalk, WalkedOutcome, Happened, ToldWalk, WalkRefused, Handed, Finished, EndedBy, walked_at_start}}
use Rattle.net_sim.{specs.Outcomes.{event_value}, specs.Walks.{HaveWalked}}
use Rattle.net_tables.{specs.Repositories.{records_of}, specs.Routing.{Holds}, specs.TwoPlans.{one_plan}}
use Rattle.command_questions.specs.declared.walk_script.WalkScript.{WalkScript}
use Rattle.play_commands.specs.declared.script.judging.Judged.{Judged}
use Rattle.command_answers.{specs.declared.refused.Refused.{Refused}, specs.declared.status.Status.{Status}, specs.Answers.{IsFaultText}, specs.Statuses.{HasCause}, specs.Naming.{IsFirstNamed}}
use Rattle.run_texts.specs.OutcomeLines.{outcome_line}
use Rattle.net_plan.specs.declared.error.PlanError.TheVariants as error
use Rattle.net_runs.specs.Events as flight
use Rattle.play_commands.specs.declared.script.judging.Judged.TheVariants as judged
use Rattle.command_answers.specs.declared.status.Status.TheVariants as status

-- ---- the events of a walk

-- the text stands for these events
abbrev pub StandsFor : Plan → List ℕ → List Event → Type 0
StandsFor plan text events = IsJsonTextOf (AreEventsOf (plan_value plan)) text (map event_entry events)

-- what is told where no text that was made is one of a walk
abbrev pub no_script : List ℕ
no_script = codes "no script: no text that was made reads back as a walk\n"

-- what may happen once a walk has begun: its first walker asks or is told of, and flights move, are lost, are answered,
-- or an open message is given up
abbrev pub IsOfWalk : WalkedEvent → Type 0
IsOfWalk (Ask k) = k ≡ 1
IsOfWalk (TellWalk k) = k ≡ 1
IsOfWalk (BeginWalk node eid tag count) = ⊥
IsOfWalk (Happening (flight.Put node bytes)) = ⊥
IsOfWalk (Happening (flight.Switch node)) = ⊥
IsOfWalk (Happening event) = ⊤

-- the first event is the walk that node n is to ask for, and the others are of it
abbrev pub AreOfWalk : ℕ → WalkScript → List Event → Type 0
AreOfWalk n script events = (first : Event) × (rest : List Event) × (events ≡ first ∷ rest)
    × (event_value first ≡ BeginWalk n script.eid.value 0 script.part.bytes)
    × All (λ (e : Event). IsOfWalk (event_value e)) rest

-- ---- runs

-- the last item of a list, if there is one
abbrev pub last_item : {A : Type 0} → List A → Option A
last_item items = slice_get items (length items - 1)

-- The events are those of a run of the plan's network from its start, in which the walkers have walked, and this comes
-- of the last one, if there is one.
pub record EndsWith (plan : Plan) (cert : Certificate) (events : List WalkedEvent) (last : Option WalkedOutcome)
    : Type 0 where
  pub turns : List WalkedTurn
  pub events_are : map (λ (t : WalkedTurn). t.event) turns ≡ events
  pub runs : WalkedRunFrom (one_plan plan) (walked_at_start plan cert) turns
  pub walked : HaveWalked (one_plan plan) cert turns
  pub last_is : last_item (map (λ (t : WalkedTurn). t.outcome) turns) ≡ last

-- ---- ends of a walk

-- a walker that is handed a message fails by it; one that it hasn't asked for changes nothing
abbrev pub FailsBy : Option Handed → Type 0
FailsBy (Some handed) = (fault : WalkFault) × (handed.result ≡ Err fault) × (fault ≢ NotAsked)
FailsBy None = ⊥

-- an event is refused, a packet is dropped on its way, or there is no answer
abbrev pub IsObstacle : OutcomeValue → Type 0
IsObstacle (flight.Refused why) = ⊤
IsObstacle (flight.Stopped number why) = ⊤
IsObstacle (flight.Silent node) = ⊤
IsObstacle _ = ⊥

-- so it is, or the walker fails
abbrev pub IsStuck : WalkedOutcome → Type 0
IsStuck (WalkRefused why) = ⊤
IsStuck (Happened outcome handed) = IsObstacle outcome ⊎ FailsBy handed
IsStuck (ToldWalk k records (EndedBy fault)) = ⊤
IsStuck _ = ⊥

-- a node that holds e has so many records
abbrev pub HasRecords : Plan → ℕ → ℕ → Type 0
HasRecords plan e count = (n : ℕ) × Holds plan n e × (length (records_of plan n) ≡ count)

-- the first walker is done, with as many records as a node has that holds e
abbrev pub IsDone : Plan → ℕ → WalkedOutcome → Type 0
IsDone plan e last = (count : ℕ) × HasRecords plan e count × (last ≡ ToldWalk 1 count Finished)

-- ---- what events are for the walk of node n

-- they are of it, a run of the plan's network, and by them it is done
abbrev pub IsDoneBy : ℕ → WalkScript → Plan → Certificate → List Event → Type 0
IsDoneBy n script plan cert events = (last : WalkedOutcome) × AreOfWalk n script events
    × EndsWith plan cert (map event_value events) (Some last) × IsDone plan script.eid.value last

-- They are of it and a run, and it doesn't go on by the last of them, or a list has no more. The line tells what comes
-- of the last one.
abbrev pub IsStuckBy : ℕ → WalkScript → Plan → Certificate → List Event → List ℕ → Type 0
IsStuckBy n script plan cert events line = (last : WalkedOutcome) × AreOfWalk n script events
    × EndsWith plan cert (map event_value events) (Some last) × (IsStuck last ⊎ (most_events ≤ length events))
    × (line ≡ outcome_line plan (length events) last)

-- they aren't of it, or it isn't done at the end of their run
abbrev pub IsNotDoneBy : ℕ → WalkScript → Plan → Certificate → List Event → Type 0
IsNotDoneBy n script plan cert events = ¬ AreOfWalk n script events
    ⊎ ((last : Option WalkedOutcome) × EndsWith plan cert (map event_value events) last
    × MatchOption last ⊤ (λ outcome. ¬ IsDone plan script.eid.value outcome))

-- so they are judged
abbrev pub ArePlayed : ℕ → WalkScript → Plan → Certificate → List Event → Judged → Type 0
ArePlayed n script plan cert events judged.Script = IsDoneBy n script plan cert events
ArePlayed n script plan cert events (judged.Stuck line) = IsStuckBy n script plan cert events (string_bytes line)
ArePlayed n script plan cert events judged.Other = IsNotDoneBy n script plan cert events

-- the text stands for no events
abbrev pub HasNoEvents : Plan → List ℕ → Type 0
HasNoEvents plan text = (cause : PlanError) × (cause ≢ error.OutOfMemory)
    × IsRefused (read_events (node_names (plan_value plan).nodes)) (AreEventsOf (plan_value plan)) text cause

-- so a text is judged by the events for which it stands
abbrev pub IsJudged : ℕ → WalkScript → Plan → Certificate → List ℕ → Judged → Type 0
IsJudged n script plan cert text is = ((is ≡ judged.Other) × HasNoEvents plan text)
    ⊎ ((read : List Event) × StandsFor plan text read × ArePlayed n script plan cert read is)

-- ---- answers

-- The text answers on a plan and a certificate, in a run that ends so. It stands for events of the walk, by which it is
-- done. Or it tells by which event the walk doesn't go on, that there is no script, or the first fault.
abbrev pub AnswersScriptOn : WalkScript → Plan → Certificate → Status → List ℕ → Type 0
AnswersScriptOn script plan cert status.Yes text = Accepts plan cert × (n : ℕ) × IsFirstNamed plan script.node.now n
    × (events : List Event) × StandsFor plan text events × IsDoneBy n script plan cert events
AnswersScriptOn script plan cert status.Fault text =
    (Accepts plan cert × (n : ℕ) × IsFirstNamed plan script.node.now n
    × (events : List Event) × IsStuckBy n script plan cert events text)
    ⊎ (Accepts plan cert × (n : ℕ) × IsFirstNamed plan script.node.now n
    × (made : List ℕ) × IsJudged n script plan cert made judged.Other × (text ≡ no_script))
    ⊎ IsFaultText plan cert text
AnswersScriptOn script plan cert status.Unreadable text = ⊥
AnswersScriptOn script plan cert status.NoMemory text = ⊥

-- no node has the name
abbrev pub IsNameless : List ℕ → Plan → Type 0
IsNameless name plan = (n : ℕ) → name_of plan n ≢ Some name

-- why there is no answer on a plan: no node has the name
abbrev pub IsUnscriptedOn : List ℕ → Plan → Refused → Type 0
IsUnscriptedOn name plan why = HasCause (λ unread cause. ⊥) (IsNameless name plan) ⊥ ⊥ why
