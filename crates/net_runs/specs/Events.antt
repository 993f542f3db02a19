-- What may happen to the network, what comes of that, and why an event is refused.
use Rattle.std.specs.Prelude.{ℕ, ◌≡◌, ◌⊎◌, ◌-◌, ◌<◌, ◌≤◌, List, [], length, Bool, true, false, Option, Some, None, IsSomeAnd}
use Rattle.mctp_transport.{specs.PacketValues.{PacketValue, KeyValue, Spelled}, specs.Hearing.{Answer}}
use Rattle.mctp_routing.specs.declared.decision.ForwardFault.{ForwardFault}
use Rattle.net_runs.specs.States.{NetworkState, unit_of}
use Rattle.net_tables.specs.TwoPlans.{Tables}

pub data EventValue : Type 0 where
  -- the bytes are put in at the node
  Put : (node : ℕ) → (bytes : List ℕ) → EventValue
  -- the flight moves on, or with keep a copy of it
  Move : (number : ℕ) → (keep : Bool) → EventValue
  -- the flight is lost
  Lose : (number : ℕ) → EventValue
  -- the node's time for the key is up
  Expire : (node : ℕ) → (key : KeyValue) → EventValue
  -- the node's terminus answers its oldest waiting message
  AnswerAt : (node : ℕ) → EventValue
  -- the node goes by its new rows from now on
  Switch : (node : ℕ) → EventValue

-- why an event is refused
pub data Refusal : Type 0 where
  N01 : Refusal
  N02 : Refusal
  N03 : Refusal
  N04 : Refusal
  N05 : Refusal
  N06 : Refusal
  N07 : Refusal

pub data OutcomeValue : Type 0 where
  PutIn : (number : ℕ) → (node : ℕ) → OutcomeValue
  Moved : (number : ℕ) → (node : ℕ) → (hops : ℕ) → OutcomeValue
  -- the flight ended at the node, whose assembler answered so to its packet of the key
  Entered : (number : ℕ) → (node : ℕ) → (key : KeyValue) → (answer : Answer) → OutcomeValue
  -- the flight ended on its way
  Stopped : (number : ℕ) → (why : ForwardFault) → OutcomeValue
  Lost : (number : ℕ) → OutcomeValue
  Expired : (node : ℕ) → (was_open : Bool) → OutcomeValue
  -- the answer's packets were put in at the node, as the flights from the first to the last
  Answered : (node : ℕ) → (first : ℕ) → (last : ℕ) → OutcomeValue
  -- the message at the node has no answer
  Silent : (node : ℕ) → OutcomeValue
  Switched : (node : ℕ) → OutcomeValue
  Refused : (why : Refusal) → OutcomeValue

-- With the outcome the flight ends at the node, whose assembler answered so under the key. What is said of messages
-- that come is said by this alone, whatever else an outcome tells.
abbrev pub Brings : OutcomeValue → (number node : ℕ) → KeyValue → Answer → Type 0
Brings outcome number node key answer = outcome ≡ Entered number node key answer

-- the node that an event names
abbrev pub named_node : EventValue → Option ℕ
named_node (Put node bytes) = Some node
named_node (Move number keep) = None
named_node (Lose number) = None
named_node (Expire node key) = Some node
named_node (AnswerAt node) = Some node
named_node (Switch node) = Some node

-- the flight that an event names
abbrev pub named_flight : EventValue → Option ℕ
named_flight (Put node bytes) = None
named_flight (Move number keep) = Some number
named_flight (Lose number) = Some number
named_flight (Expire node key) = None
named_flight (AnswerAt node) = None
named_flight (Switch node) = None

-- the node of which an event asks the terminus
abbrev pub asked_node : EventValue → Option ℕ
asked_node (Put node bytes) = None
asked_node (Move number keep) = None
asked_node (Lose number) = None
asked_node (Expire node key) = None
asked_node (AnswerAt node) = Some node
asked_node (Switch node) = None

-- the node that an event switches
abbrev pub switched_node : EventValue → Option ℕ
switched_node (Put node bytes) = None
switched_node (Move number keep) = None
switched_node (Lose number) = None
switched_node (Expire node key) = None
switched_node (AnswerAt node) = None
switched_node (Switch node) = Some node

-- the bytes that an event puts in
abbrev pub bytes_put : EventValue → Option (List ℕ)
bytes_put (Put node bytes) = Some bytes
bytes_put (Move number keep) = None
bytes_put (Lose number) = None
bytes_put (Expire node key) = None
bytes_put (AnswerAt node) = None
bytes_put (Switch node) = None

-- how many flight numbers have to be left: one for a flight that is made, one for each packet that an answer can have
abbrev pub numbers_needed : EventValue → ℕ
numbers_needed (Put node bytes) = 1
numbers_needed (Move number true) = 1
numbers_needed (Move number false) = 0
numbers_needed (Lose number) = 0
numbers_needed (Expire node key) = 0
numbers_needed (AnswerAt node) = 64
numbers_needed (Switch node) = 0

-- the most flights that are ever made
abbrev pub most_flights : ℕ
most_flights = 4294967295

-- Why an event is refused: no such node, no packet, no such flight, no terminus, nothing waits there, too few numbers
-- left, nothing to switch to or switched before.
abbrev pub IsRefused : Tables → NetworkState → EventValue → Refusal → Type 0
IsRefused tables w event N01 = IsSomeAnd (named_node event) (λ node. length tables.plan.nodes.items ≤ node)
IsRefused tables w event N02 =
    IsSomeAnd (bytes_put event) (λ bytes. (p : PacketValue) → ¬ Spelled (unit_of tables.plan) p bytes)
IsRefused tables w event N03 = IsSomeAnd (named_flight event) (λ number. w.flight number ≡ None)
IsRefused tables w event N04 = IsSomeAnd (asked_node event) (λ node. w.terminus node ≡ None)
IsRefused tables w event N05 = IsSomeAnd (asked_node event) (λ node. IsSomeAnd (w.terminus node) (λ t. t.waiting ≡ []))
IsRefused tables w event N06 = most_flights - w.made < numbers_needed event
IsRefused tables w event N07 =
    IsSomeAnd (switched_node event) (λ node. (tables.after ≡ None) ⊎ (w.switched node ≡ true))

-- the order of the refusals
abbrev pub refusal_number : Refusal → ℕ
refusal_number N01 = 1
refusal_number N02 = 2
refusal_number N03 = 3
refusal_number N04 = 4
refusal_number N05 = 5
refusal_number N06 = 6
refusal_number N07 = 7

-- the least refusal that applies
abbrev pub IsFirstRefusal : Tables → NetworkState → EventValue → Refusal → Type 0
IsFirstRefusal tables w event why = IsRefused tables w event why
    × ((other : Refusal) → refusal_number other < refusal_number why → ¬ IsRefused tables w event other)
