-- Events as plain lists and numbers.
use Rattle.std.specs.Prelude.{ℕ, Bool, true, List, nat_lt}
use Rattle.plan_values.{specs.declared.event.Event.{Event}, specs.declared.event.Event.TheVariants.{Put, Move, Lose, Expire, Answer, Switch, Walk, Ask, Collected}}

-- an entry of a list of events; nodes are indices into the plan's list
pub data EventEntry : Type 0 where
  -- the node, and the packet's bytes
  put : ℕ → List ℕ → EventEntry
  -- the flight, and whether it is kept
  move : ℕ → Bool → EventEntry
  -- the flight
  lose : ℕ → EventEntry
  -- the node, and the message key: source, tag and tag owner
  expire : ℕ → ℕ → ℕ → Bool → EventEntry
  -- the node
  answer : ℕ → EventEntry
  -- the node
  switch : ℕ → EventEntry
  -- the walker's node, the endpoint ID that it asks, its tag, and how many bytes of a record a request asks for
  walk : ℕ → ℕ → ℕ → ℕ → EventEntry
  -- the walker
  ask : ℕ → EventEntry
  -- the walker
  collected : ℕ → EventEntry

abbrev pub event_entry : Event → EventEntry
event_entry (Put node bytes) = put node bytes.items
event_entry (Move flight keep) = move flight keep
event_entry (Lose flight) = lose flight
event_entry (Expire node key) = expire node key.source.value key.tag.value key.owner
event_entry (Answer node) = answer node
event_entry (Switch node) = switch node
event_entry (Walk node eid tag count) = walk node eid.value tag.value count
event_entry (Ask walker) = ask walker
event_entry (Collected walker) = collected walker

-- the event's node is one of so many
abbrev pub is_known_event : ℕ → EventEntry → Bool
is_known_event nodes (put node bytes) = nat_lt node nodes
is_known_event nodes (move flight keep) = true
is_known_event nodes (lose flight) = true
is_known_event nodes (expire node source tag owner) = nat_lt node nodes
is_known_event nodes (answer node) = nat_lt node nodes
is_known_event nodes (switch node) = nat_lt node nodes
is_known_event nodes (walk node eid tag count) = nat_lt node nodes
is_known_event nodes (ask walker) = true
is_known_event nodes (collected walker) = true
