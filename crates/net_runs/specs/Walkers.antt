-- Walkers in the network: what each one is, what may happen to them, what comes of that, and why an event is refused.
use Rattle.std.specs.Prelude.{◌≡◌, ◌⊎◌, ℕ, ◌-◌, ◌*◌, ◌<◌, ◌≤◌, ◌==◌, if◌then◌else◌, min, false, true, length, List, slice_get, Option, Some, None, IsSomeAnd, Result, Ok, Err}
use Rattle.mctp_transport.{specs.PacketValues.{KeyValue}, specs.Hearing.{Whole}}
use Rattle.pldm_message.{specs.InstanceIds.{IdSet}, specs.Pdrs.{PartRequest}}
use Rattle.pdr_repository.{specs.declared.walk_fault.Step.{Step as WalkStep}, specs.declared.walk_fault.WalkFault.{WalkFault}, specs.declared.walk_fault.WalkFault.TheVariants.{FailedBefore, NotAsked}, specs.Walkers.{WalkState, fresh}}
use Rattle.plan_values.{specs.declared.plan.Plan.{Plan}, specs.declared.certificate.Certificate.{Certificate}}
use Rattle.net_tables.specs.Routing.{Holds}
use Rattle.net_runs.{specs.States.{NetworkState, at_start, unit_of}, specs.Events.{EventValue, OutcomeValue, Entered, Refusal, N01, N06, most_flights}, specs.ExactMessages.{IsSettled}}
use Rattle.net_runs.specs.Events as event

-- the most bytes of a part whose answer is of five packets at most: 16 bytes stand before them and one after
abbrev pub five_packets : ℕ → ℕ
five_packets unit = min (5 * unit - 17) 4079

-- how much a walker may collect
abbrev pub most_records : ℕ
most_records = 4096

abbrev pub most_bytes : ℕ
most_bytes = 16777216

-- A walker: the node where it is, the endpoint ID that it asks, the tag of its requests, the walk with its outstanding
-- request, the instance IDs of its requests, and the fault that ended it.
pub record WalkerValue : Type 0 where
  pub node : ℕ
  pub eid : ℕ
  pub tag : ℕ
  pub walk : WalkState
  pub ids : IdSet
  pub ended : Option WalkFault

abbrev pub no_ids : IdSet
no_ids = record { out = λ _. false; last = None }

abbrev pub fresh_walker : (node eid tag count : ℕ) → WalkerValue
fresh_walker node eid tag count =
    record { node = node; eid = eid; tag = tag; walk = fresh count most_records most_bytes; ids = no_ids; ended = None }

-- the key of its requests, from the endpoint ID of its node, and that of their answers, from the one that it asks
abbrev pub asking_key : (own : ℕ) → WalkerValue → KeyValue
asking_key own walker = record { source = own; tag = walker.tag; owner = true }

abbrev pub answering_key : WalkerValue → KeyValue
answering_key walker = record { source = walker.eid; tag = walker.tag; owner = false }

-- both keys are settled
abbrev pub AreSettled : Plan → NetworkState → (own : ℕ) → WalkerValue → Type 0
AreSettled plan w own walker =
    IsSettled plan w (asking_key own walker) walker.eid × IsSettled plan w (answering_key walker) own

-- it is done or has failed
abbrev pub IsOver : WalkerValue → Type 0
IsOver walker = (walker.walk.failed ≡ true) ⊎ (walker.walk.due ≡ None)

-- The network and its walkers: each by its number, and how many there are.
pub record WalkedState : Type 0 where
  pub network : NetworkState
  pub walker : ℕ → Option WalkerValue
  pub begun : ℕ

abbrev pub walked_at_start : Plan → Certificate → WalkedState
walked_at_start plan cert = record { network = at_start plan cert; walker = λ _. None; begun = 0 }

-- the walker of this number is as told, and the others stay
abbrev pub with_walker : (ℕ → Option WalkerValue) → ℕ → WalkerValue → ℕ → Option WalkerValue
with_walker walkers number walker = λ k. if k == number then Some walker else walkers k

pub data WalkedEvent : Type 0 where
  -- something happens to the network
  Happening : (event : EventValue) → WalkedEvent
  -- a walk begins at the node, which asks the endpoint ID under the tag for parts of so many bytes
  BeginWalk : (node eid tag count : ℕ) → WalkedEvent
  -- the walker's request is put in, the next one or once more the outstanding one
  Ask : (walker : ℕ) → WalkedEvent
  -- what the walker has collected is told
  TellWalk : (walker : ℕ) → WalkedEvent

-- a refusal that the network knows, or one of walks alone
pub data WalkRefusal : Type 0 where
  Also : (why : Refusal) → WalkRefusal
  N08 : WalkRefusal
  N09 : WalkRefusal
  N10 : WalkRefusal
  N11 : WalkRefusal
  N12 : WalkRefusal
  N13 : WalkRefusal

-- what a walker made of a message that it was handed
pub record Handed : Type 0 where
  pub number : ℕ
  pub result : Result WalkStep WalkFault

-- whether a walk goes on, is done, or was ended by a fault
pub data Standing : Type 0 where
  Open : Standing
  Finished : Standing
  EndedBy : (fault : WalkFault) → Standing

pub data WalkedOutcome : Type 0 where
  -- what came of it in the network, and what a walker made of the message that came, if one was handed it
  Happened : (outcome : OutcomeValue) → (handed : Option Handed) → WalkedOutcome
  Begun : (walker : ℕ) → WalkedOutcome
  Asked : (walker : ℕ) → (flight : ℕ) → WalkedOutcome
  ToldWalk : (walker : ℕ) → (records : ℕ) → (standing : Standing) → WalkedOutcome
  WalkRefused : (why : WalkRefusal) → WalkedOutcome

-- With the outcome the message comes whole at the node, under the key, and is handed to a walker or to none.
abbrev pub BringsWhole : WalkedOutcome → (number node : ℕ) → KeyValue → List ℕ → Option Handed → Type 0
BringsWhole outcome number node key message handed = outcome ≡ Happened (Entered number node key (Whole message)) handed

-- so it is with the outcome at an index of a list
abbrev pub BringsWholeAt : List WalkedOutcome → (i number node : ℕ) → KeyValue → List ℕ → Option Handed → Type 0
BringsWholeAt outcomes i number node key message handed =
    slice_get outcomes i ≡ Some (Happened (Entered number node key (Whole message)) handed)

-- a walker has this node, endpoint ID and tag
abbrev pub IsThere : WalkedState → (node eid tag : ℕ) → Type 0
IsThere w node eid tag =
    (k : ℕ) × (x : WalkerValue) × (w.walker k ≡ Some x) × (x.node ≡ node) × (x.eid ≡ eid) × (x.tag ≡ tag)

-- Nothing is outstanding, something is to be asked, and a key isn't settled.
abbrev pub MustWait : Plan → NetworkState → WalkerValue → Type 0
MustWait plan w walker = (¬ IsOver walker) × (walker.walk.waiting ≡ None)
    × ((own : ℕ) → Holds plan walker.node own → ¬ AreSettled plan w own walker)

-- Why an event is refused: no such node, no flight number left, the walker is there already, no terminus there, too few
-- or too many bytes, no such walker, a key that isn't settled, or a walk that is over. What happens to the network is
-- refused by the network.
abbrev pub IsWalkRefused : Plan → WalkedState → WalkedEvent → WalkRefusal → Type 0
IsWalkRefused plan w (BeginWalk node eid tag count) (Also N01) = length plan.nodes.items ≤ node
IsWalkRefused plan w (BeginWalk node eid tag count) N08 = IsThere w node eid tag
IsWalkRefused plan w (BeginWalk node eid tag count) N09 = (n : ℕ) → Holds plan n eid → w.network.terminus n ≡ None
IsWalkRefused plan w (BeginWalk node eid tag count) N10 = (count < 8) ⊎ (five_packets (unit_of plan) < count)
IsWalkRefused plan w (Ask k) (Also N06) = most_flights - w.network.made < 1
IsWalkRefused plan w (Ask k) N11 = w.walker k ≡ None
IsWalkRefused plan w (Ask k) N12 = IsSomeAnd (w.walker k) (MustWait plan w.network)
IsWalkRefused plan w (Ask k) N13 = IsSomeAnd (w.walker k) IsOver
IsWalkRefused plan w (TellWalk k) N11 = w.walker k ≡ None
IsWalkRefused plan w _ _ = ⊥

-- the order of the refusals
abbrev pub walk_refusal_number : WalkRefusal → ℕ
walk_refusal_number (Also why) = event.refusal_number why
walk_refusal_number N08 = 8
walk_refusal_number N09 = 9
walk_refusal_number N10 = 10
walk_refusal_number N11 = 11
walk_refusal_number N12 = 12
walk_refusal_number N13 = 13

abbrev pub IsFirstWalkRefusal : Plan → WalkedState → WalkedEvent → WalkRefusal → Type 0
IsFirstWalkRefusal plan w event why = IsWalkRefused plan w event why
    × ((other : WalkRefusal) → walk_refusal_number other < walk_refusal_number why → ¬ IsWalkRefused plan w event other)

-- the fault that has ended a walk, after one answer more
abbrev pub ended_after : Option WalkFault → Result WalkStep WalkFault → Option WalkFault
ended_after before (Ok step) = before
ended_after before (Err FailedBefore) = before
ended_after before (Err NotAsked) = before
ended_after before (Err fault) = Some fault

abbrev pub standing_by : Option WalkFault → Option PartRequest → Standing
standing_by (Some fault) due = EndedBy fault
standing_by None None = Finished
standing_by None (Some r) = Open

abbrev pub standing_of : WalkerValue → Standing
standing_of walker = standing_by walker.ended walker.walk.due
