-- What is gathered of a list of events, and what its text stands for.
use Rattle.std.specs.Prelude.{ℕ, Bool, true, codes, List, [], ◌∷◌, map, Option}
use Rattle.serde_json.specs.Data.{Data}
use Rattle.net_plan.{specs.EventParts.{IsEventBy}, specs.EventReading.{has_switches, has_walks}, specs.EventText.{IsFormat, AreEventsOf}, specs.Gathered.{Slot, slot}, specs.JsonWords.{IsShortListOf}, specs.NameIndexes.{noted, IsIndexOf}, specs.declared.event_format.Format.{Format}, specs.declared.plain_events.EventsParts.{EventsParts}, specs.Limits.{most_events}}
use Rattle.plan_values.{specs.EventValues.{EventEntry, put, move, lose, expire, answer, switch, walk, ask, collected, event_entry}, specs.PlanValues.{PlanValue, node_names}}

abbrev pub events_slots : EventsParts → List Slot
events_slots p =
    slot (codes "format") IsFormat p.format
    ∷ slot (codes "events")
    (λ d v. IsShortListOf most_events (IsEventBy (noted p.nodes.now)) d (map event_entry v.items))
    p.events
    ∷ []

-- lists of the format have this event
abbrev pub is_event_in : Format → EventEntry → Bool
is_event_in f (put node bytes) = true
is_event_in f (move flight keep) = true
is_event_in f (lose flight) = true
is_event_in f (expire node source tag owner) = true
is_event_in f (answer node) = true
is_event_in f (switch node) = has_switches f
is_event_in f (walk node eid tag count) = has_walks f
is_event_in f (ask walker) = has_walks f
is_event_in f (collected walker) = has_walks f

-- events at the nodes whose indices are found
abbrev pub AreEventsBy : (List ℕ → Option ℕ) → Data → List EventEntry → Type 0
AreEventsBy find d es = (plan : PlanValue) → IsIndexOf find (node_names plan.nodes) → AreEventsOf plan d es
