-- Runs of the network: one event after another, of any number.
use Rattle.std.specs.Prelude.{◌≡◌, ◌≢◌, ◌⊎◌, ◌≤◌, ℕ, List, [], ◌∷◌, Some, All}
use Rattle.mctp_transport.specs.PacketValues.{PacketValue, Spelled}
use Rattle.plan_values.{specs.declared.plan.Plan.{Plan}, specs.declared.certificate.Certificate.{Certificate}}
use Rattle.net_runs.{specs.States.{NetworkState, Flight, at_start, unit_of}, specs.Events.{EventValue, OutcomeValue, Put, PutIn, AnswerAt, Answered, Switch}, specs.Networks.{Step}}
use Rattle.net_tables.specs.TwoPlans.{Tables, one_plan}

-- one turn of a run: the event, what came of it, and the network after it
pub record Turn : Type 0 where
  pub event : EventValue
  pub outcome : OutcomeValue
  pub after : NetworkState

-- each turn is a step from the network that the one before left
abbrev pub RunFrom : Tables → NetworkState → List Turn → Type 0
RunFrom tables w [] = Unit {0}
RunFrom tables w (turn ∷ turns) = Step tables w turn.event turn.outcome turn.after × RunFrom tables turn.after turns

-- a run from the start
abbrev pub RunOf : Tables → Certificate → List Turn → Type 0
RunOf tables cert turns = RunFrom tables (at_start tables.plan cert) turns

-- a run by the tables of one plan
abbrev pub Run : Plan → Certificate → List Turn → Type 0
Run plan cert turns = RunOf (one_plan plan) cert turns

-- none of the turns switches a node
abbrev pub NoneSwitches : List Turn → Type 0
NoneSwitches turns = All (λ turn. (node : ℕ) → turn.event ≢ Switch node) turns

-- the network after the last turn
abbrev pub after_all : NetworkState → List Turn → NetworkState
after_all w [] = w
after_all w (turn ∷ turns) = after_all turn.after turns

-- the network after a run from the start
abbrev pub reached : Plan → Certificate → List Turn → NetworkState
reached plan cert turns = after_all (at_start plan cert) turns

-- one of the flights from the first to the last has the packet
abbrev pub IsAmongFlights : NetworkState → ℕ → ℕ → PacketValue → Type 0
IsAmongFlights w first last p =
    (k : ℕ) × (f : Flight) × (first ≤ k) × (k ≤ last) × (w.flight k ≡ Some f) × (f.packet ≡ p)

-- A put that isn't refused puts in the packet of its bytes, an answer those of the flights that it made.
abbrev pub IsPutOf : Plan → EventValue → OutcomeValue → NetworkState → PacketValue → Type 0
IsPutOf plan (Put node bytes) (PutIn number at) new p = Spelled (unit_of plan) p bytes
IsPutOf plan (AnswerAt node) (Answered at first last) new p = IsAmongFlights new first last p
IsPutOf plan _ _ new p = ⊥

abbrev pub PutsIn : Plan → Turn → PacketValue → Type 0
PutsIn plan turn p = IsPutOf plan turn.event turn.outcome turn.after p

-- one of the turns puts the packet in
abbrev pub WasPutIn : Plan → List Turn → PacketValue → Type 0
WasPutIn plan [] p = ⊥
WasPutIn plan (turn ∷ turns) p = PutsIn plan turn p ⊎ WasPutIn plan turns p
