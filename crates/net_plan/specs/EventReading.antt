-- The events that a JSON value stands for, or its first fault in the order of tests, by functions.
use Rattle.std.{specs.Prelude.{ℕ, ◌==◌, codes, List, length, Bool, true, false, None, if◌then◌else◌, Result, Ok}, specs.List.{list_all}}
use Rattle.serde_json.specs.Data.{Data}
use Rattle.plan_values.specs.EventValues.{EventEntry, is_known_event}
use Rattle.net_plan.{specs.Finding.{first_fault, refused}, specs.Json.{demand}, specs.Made.{number_at, events_made}, specs.Names.{index_among}, specs.Reading.{then_with}, specs.Tables.{events_in}, specs.declared.error.ValueFault.{ValueFault}, specs.declared.error.ValueFault.TheVariants.{UnknownName}, specs.declared.event_format.Format.{Format}, specs.declared.event_format.Format.TheVariants.{One, Two, Three}}

-- the format that has this number
abbrev pub format_of : ℕ → Format
format_of n = if n == 1 then One else (if n == 2 then Two else Three)

-- the format by whose tests events are read: that of the number, or 1 where none of 1 to 3 stands there
abbrev pub events_format : Data → Format
events_format d = format_of (number_at (codes "format") 1 3 d)

-- formats 2 and 3 have switches
abbrev pub has_switches : Format → Bool
has_switches One = false
has_switches Two = true
has_switches Three = true

-- format 3 alone has walks
abbrev pub has_walks : Format → Bool
has_walks One = false
has_walks Two = false
has_walks Three = true

-- the test of all events: they are at nodes of the plan
abbrev pub events_tested : ℕ → List EventEntry → Result (List EventEntry) ValueFault
events_tested nodes es = then_with (demand UnknownName (list_all (is_known_event nodes) es)) (λ _. Ok es)

-- the events, by the tests of a format
abbrev pub events_by : Format → List (List ℕ) → Data → Result (List EventEntry) ValueFault
events_by f nodes d =
    then_with (refused (first_fault None (events_in f) d)) (λ _.
    events_tested (length nodes) (events_made (index_among nodes) d))

abbrev pub events : List (List ℕ) → Data → Result (List EventEntry) ValueFault
events nodes d = events_by (events_format d) nodes d
