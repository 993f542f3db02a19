-- One step of a network: an event, what comes of it, and the network after it.
use Rattle.std.specs.Prelude.{◌≡◌, ◌⊎◌, ◌↔◌, ℕ, ◌+◌, List, ◌∷◌, length, map, true, false, Option, Some, None}
use Rattle.mctp_transport.{specs.PacketValues.{PacketValue, KeyValue, key_of, Spelled}, specs.Cutting.{ArePacketsOf}, specs.Histories.{Arrived, TimeUp, IsOpen}, specs.Hearing.{Hears}}
use Rattle.plan_values.{specs.declared.plan.Plan.{Plan}, specs.declared.nodes.Row.{Row}}
use Rattle.pdr_repository.specs.Answers.{Answers}
use Rattle.mctp_routing.{specs.declared.decision.Decision.{Decision}, specs.declared.decision.Decision.TheVariants.{Here, Drop, Forward}, specs.Decisions.{Decides}, specs.Rows.{Routes}}
use Rattle.net_tables.{specs.Routing.{Holds, IsBridge}, specs.Tables.{table_row}, specs.TwoPlans.{Tables}}
use Rattle.net_runs.{specs.Termini.{TerminusState, WaitingMessage}, specs.States.{NetworkState, Flight, destination, with_flight, without_flight, with_made, with_input, with_terminus, with_packet, with_packets, with_received, with_switched, unit_of, slots, limit, rows_now}, specs.Events.{EventValue, Put, Move, Lose, Expire, AnswerAt, Switch, OutcomeValue, PutIn, Moved, Entered, Stopped, Lost, Expired, Answered, Silent, Switched, Refused, Refusal, IsRefused, IsFirstRefusal}}

-- what the node where the flight is, by these rows, decides on its packet; at its origin an endpoint sends its own
abbrev pub IsDecided : Plan → List Row → Flight → Decision → Type 0
IsDecided plan rows f decision = Decides (Holds plan f.node (destination f)) (IsBridge plan f.node ⊎ (f.hops ≡ 0))
    (Routes (map table_row rows) (destination f)) (destination f) decision

-- What comes of the decision on a flight, which has this number and isn't in the network: its packet enters the node,
-- it ends, or it is at the next node with one hop more.
abbrev pub IsDone : NetworkState → ℕ → Flight → OutcomeValue → Decision → NetworkState → Type 0
IsDone w number f (Entered k node key answer) Here new =
    (k ≡ number) × (node ≡ f.node) × (key ≡ key_of f.packet) × Hears slots limit (w.history f.node) f.packet answer
    × (new ≡ with_received (with_input w f.node (Arrived f.packet)) f.node key answer)
IsDone w number f (Stopped k told) (Drop why) new = (k ≡ number) × (told ≡ why) × (new ≡ w)
IsDone w number f (Moved k node hops) (Forward hop) new = (k ≡ number) × (node ≡ hop.next) × (hops ≡ f.hops + 1)
    × (new ≡ with_flight w number (record f { node = node; hops = hops }))
IsDone w number f _ _ new = ⊥

-- what comes of moving the flight, by the rows in force
abbrev pub Moves : Tables → NetworkState → ℕ → Flight → OutcomeValue → NetworkState → Type 0
Moves tables w number f outcome new =
    (decision : Decision) × IsDecided tables.plan (rows_now tables w f.node) f decision
    × IsDone w number f outcome decision new

-- the key of an answer: from the node that holds the EID, with the tag of the message and without the owner bit
abbrev pub answer_key : ℕ → KeyValue → KeyValue
answer_key eid asked = record { source = eid; tag = asked.tag; owner = false }

-- What comes of the terminus's answer to a message, which is taken off: nothing, or the answer's packets are put in at
-- its node, to where the message came from.
abbrev pub IsAnswered : Plan → NetworkState → ℕ → KeyValue → Option (List ℕ) → OutcomeValue → NetworkState → Type 0
IsAnswered plan w node asked None (Silent at) new = (at ≡ node) × (new ≡ w)
IsAnswered plan w node asked (Some answer) (Answered at first last) new =
    (eid : ℕ) × (ps : List PacketValue) × Holds plan node eid
    × ArePacketsOf (unit_of plan) answer asked.source (answer_key eid asked) 0 ps
    × (at ≡ node) × (first ≡ w.made + 1) × (last ≡ w.made + length ps) × (new ≡ with_packets w node ps)
IsAnswered plan w node asked _ _ new = ⊥

-- What comes of an event that isn't refused. With keep the flight stays, and a copy moves under the next number. The
-- oldest message that waits at a terminus is taken off, and the answer may change its terminus ID.
abbrev pub Happens : Tables → NetworkState → EventValue → OutcomeValue → NetworkState → Type 0
Happens tables w (Put node bytes) (PutIn k at) new =
    (p : PacketValue) × Spelled (unit_of tables.plan) p bytes × (k ≡ w.made + 1) × (at ≡ node)
    × (new ≡ with_packet w node p)
Happens tables w (Move number false) outcome new =
    (f : Flight) × (w.flight number ≡ Some f) × Moves tables (without_flight w number) number f outcome new
Happens tables w (Move number true) outcome new =
    (f : Flight) × (w.flight number ≡ Some f) × Moves tables (with_made w (w.made + 1)) (w.made + 1) f outcome new
Happens tables w (Lose number) (Lost k) new = (k ≡ number) × (new ≡ without_flight w number)
Happens tables w (Expire node key) (Expired at was_open) new =
    (at ≡ node) × ((was_open ≡ true) ↔ IsOpen slots limit (w.history node) key) × (new ≡ with_input w node (TimeUp key))
Happens tables w (AnswerAt node) outcome new =
    (t : TerminusState) × (oldest : WaitingMessage) × (rest : List WaitingMessage) × (answer : Option (List ℕ))
    × (tid : ℕ)
    × (w.terminus node ≡ Some t) × (t.waiting ≡ oldest ∷ rest) × Answers t.tid t.records oldest.bytes answer tid
    × IsAnswered tables.plan
    (with_terminus w node (Some (record t { tid = tid; waiting = rest }))) node oldest.key answer outcome new
Happens tables w (Switch node) (Switched at) new = (at ≡ node) × (new ≡ with_switched w node)
Happens tables w _ _ new = ⊥

-- One step of the network: a refused event changes nothing.
abbrev pub Step : Tables → NetworkState → EventValue → OutcomeValue → NetworkState → Type 0
Step tables w event (Refused why) new = IsFirstRefusal tables w event why × (new ≡ w)
Step tables w event outcome new =
    ((why : Refusal) → ¬ IsRefused tables w event why) × Happens tables w event outcome new

-- some outcome and some next state are there for the event
abbrev pub HasStep : Tables → NetworkState → EventValue → Type 0
HasStep tables w event = (outcome : OutcomeValue) × (new : NetworkState) × Step tables w event outcome new
