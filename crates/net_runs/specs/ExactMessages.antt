-- When the packets of one key to one destination keep apart, message by message, and that each message then comes as it
-- was sent.
use Rattle.std.specs.Prelude.{◌≡◌, ◌≢◌, ◌⊎◌, ℕ, ◌*◌, ◌<◌, ◌≤◌, List, [], ◌∷◌, ◌++◌, length, Some, All}
use Rattle.mctp_transport.{specs.PacketValues.{PacketValue, KeyValue, key_of}, specs.Sending.{IsPacketOf}, specs.Histories.{Arrived, after, IsOpen, Comes}, specs.Hearing.{Whole}}
use Rattle.plan_values.{specs.declared.plan.Plan.{Plan}, specs.declared.certificate.Certificate.{Certificate}}
use Rattle.net_tables.{specs.Routing.{Holds}, specs.TwoPlans.{Tables, one_plan}}
use Rattle.net_runs.{specs.Termini.{TerminusState}, specs.States.{NetworkState, Flight, destination, at_start, slots, limit}, specs.Events.{EventValue, OutcomeValue, Brings}, specs.Networks.{Step}, specs.Runs.{Turn, RunFrom, PutsIn}}

-- no flight of the key is on its way to d, and the key isn't open at the node that holds d
pub record IsQuiet (plan : Plan) (w : NetworkState) (key : KeyValue) (d : ℕ) : Type 0 where
  pub no_flight : (number : ℕ) (f : Flight) → w.flight number ≡ Some f → key_of f.packet ≡ key → destination f ≢ d
  pub not_open : (n : ℕ) → Holds plan n d → ¬ IsOpen slots limit (w.history n) key

-- it is quiet, and no message of the key waits at the node that holds d
pub record IsSettled (plan : Plan) (w : NetworkState) (key : KeyValue) (d : ℕ) : Type 0 where
  pub quiet : IsQuiet plan w key d
  pub none_waits : (n : ℕ) (t : TerminusState) → Holds plan n d → w.terminus n ≡ Some t
      → All (λ message. message.key ≢ key) t.waiting

-- a stretch of a run in which one message is sent, with numbers from a first one on
pub record Epoch : Type 0 where
  pub message : List ℕ
  pub first_number : ℕ

-- the packet is one of those of the epoch's message, of so many bytes each
abbrev pub IsOfEpoch : (unit : ℕ) → Epoch → KeyValue → ℕ → PacketValue → Type 0
IsOfEpoch unit epoch key d p = IsPacketOf unit epoch.message d key epoch.first_number p

-- a turn, and the epoch in which it stands
abbrev pub TurnOfEpoch : Type 0
TurnOfEpoch = Turn × Epoch

-- Each turn has an epoch, which changes only where the key is quiet, and what is put in under the key for d, by a put
-- or by an answer, is of the turn's epoch.
abbrev pub IsTidyFrom : (unit : ℕ) → Plan → KeyValue → ℕ → NetworkState → Epoch → List TurnOfEpoch → Type 0
IsTidyFrom unit plan key d w epoch [] = Unit {0}
IsTidyFrom unit plan key d w epoch (turn ∷ turns) =
    ((turn.1 ≡ epoch) ⊎ IsQuiet plan w key d)
    × ((p : PacketValue) → PutsIn plan turn.0 p → key_of p ≡ key → p.destination ≡ d → IsOfEpoch unit turn.1 key d p)
    × IsTidyFrom unit plan key d turn.0.after turn.1 turns

abbrev pub turns_of : List TurnOfEpoch → List Turn
turns_of [] = []
turns_of (turn ∷ turns) = turn.0 ∷ turns_of turns

-- A whole message that the turn tells under the key, at the node that holds d, is the message of the turn's epoch,
-- where that is of five packets at most.
abbrev pub TellsAsSent : (unit : ℕ) → Plan → KeyValue → ℕ → TurnOfEpoch → Type 0
TellsAsSent unit plan key d turn = (number n : ℕ) (message : List ℕ) → Holds plan n d → length turn.1.message ≤ 5 * unit
    → Brings turn.0.outcome number n key (Whole message) → message ≡ turn.1.message

-- In a tidy rest of a run, from a network in which the key is quiet, each turn tells what was sent.
abbrev pub RunsAsSentBy : (unit : ℕ) → Tables → KeyValue → ℕ → NetworkState → Type 0
RunsAsSentBy unit tables key d w =
    (first : Epoch) (turns : List TurnOfEpoch) → IsQuiet tables.plan w key d → RunFrom tables w (turns_of turns)
    → IsTidyFrom unit tables.plan key d w first turns → All (TellsAsSent unit tables.plan key d) turns

abbrev pub RunsAsSent : (unit : ℕ) → Plan → KeyValue → ℕ → NetworkState → Type 0
RunsAsSent unit plan key d w = RunsAsSentBy unit (one_plan plan) key d w

-- With the step a packet of the key enters the node, and with it the message comes.
pub record ComesAt (before now : NetworkState) (n : ℕ) (key : KeyValue) (message : List ℕ) : Type 0 where
  pub packet : PacketValue
  pub entered : now.history n ≡ after (before.history n) (Arrived packet)
  pub of_key : key_of packet ≡ key
  pub comes : Comes slots limit (now.history n) message

-- A turn with which a message comes tells the message.
abbrev pub TellsWhatComes : Tables → Type 0
TellsWhatComes tables =
    (w : NetworkState) (event : EventValue) (outcome : OutcomeValue) (new : NetworkState) (n : ℕ) (key : KeyValue)
    (message : List ℕ)
    → Step tables w event outcome new → ComesAt w new n key message
    → (number : ℕ) × Brings outcome number n key (Whole message)

-- A tidy run from the start, all in one epoch, with whose last turn the message is told.
pub record IsTold (unit : ℕ) (plan : Plan) (cert : Certificate) (key : KeyValue) (d : ℕ) (epoch : Epoch)
    (message : List ℕ) : Type 0 where
  pub earlier : List TurnOfEpoch
  pub turn : Turn
  pub number : ℕ
  pub n : ℕ
  pub quiet : IsQuiet plan (at_start plan cert) key d
  pub run : RunFrom (one_plan plan) (at_start plan cert) (turns_of (earlier ++ (turn, epoch) ∷ []))
  pub tidy : IsTidyFrom unit plan key d (at_start plan cert) epoch (earlier ++ (turn, epoch) ∷ [])
  pub holds : Holds plan n d
  pub told : Brings turn.outcome number n key (Whole message)

-- the key's fields are no wider than their bits
abbrev pub FitsKey : KeyValue → Type 0
FitsKey key = (key.source < 256) × (key.tag < 8)

-- Each message that an assembler can take, under each key, to each EID that a node holds, can be sent so that it
-- comes.
abbrev pub CanBeSent : (unit : ℕ) → Plan → Certificate → Type 0
CanBeSent unit plan cert =
    (n d : ℕ) (key : KeyValue) (message : List ℕ) → n < length plan.nodes.items → Holds plan n d → d < 256
    → FitsKey key → 1 ≤ length message → length message ≤ limit
    → IsTold unit plan cert key d (record { message = message; first_number = 0 }) message

-- Of each message of six packets something else can come.
abbrev pub SixAreTooMany : (unit : ℕ) → Plan → Certificate → Type 0
SixAreTooMany unit plan cert =
    (n d : ℕ) (key : KeyValue) (message : List ℕ) → n < length plan.nodes.items → Holds plan n d → d < 256
    → FitsKey key → 5 * unit < length message → length message ≤ 6 * unit
    → (other : List ℕ) × (other ≢ message)
    × IsTold unit plan cert key d (record { message = message; first_number = 0 }) other
