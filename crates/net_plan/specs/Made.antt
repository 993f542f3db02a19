-- What is made of a value that is one of the grammar. Of any other value something is made too, which nobody reads.
use Rattle.std.{specs.Prelude.{ℕ, ◌+◌, ◌==◌, List, [], ◌∷◌, codes, Bool, false, nat_le, if◌then◌else◌, Option, Some, None, Result, Ok, Err}, specs.Str.{bytes_eq}}
use Rattle.serde_json.{specs.Data.{Data, null, array, Items, no_items, item}, specs.Find.{get}}
use Rattle.plan_values.{specs.CertificateValues.{LevelValue, PlacesValue, RangeValue, NodeRanksValue, CertificateValue}, specs.PlanValues.{BusValue, PortValue, RowValue, PoolValue, RecordValue, TerminusValue, NodeValue, PlanValue, bus_names}, specs.declared.nodes.Kind.{Kind}, specs.declared.nodes.Kind.TheVariants.{Endpoint}, specs.EventValues.{EventEntry, put, move, lose, expire, answer, switch, walk, ask, collected}}
use Rattle.net_plan.{specs.Json.{items_count, whole_number, truth, name_text, hex_text, address_text, kind_text}, specs.Names.{index_among, text_of, text_at, names_at}, specs.declared.error.ValueFault.{ValueFault}, specs.declared.plan_format.PlanFormat.{PlanFormat}, specs.declared.plan_format.PlanFormat.TheVariants.{One, Two}, specs.Limits.{most_events}}

-- ---- of a value

-- what was read, or something else
abbrev pub read_or : {A : Type 0} → A → Result A ValueFault → A
read_or other (Ok a) = a
read_or other (Err f) = other

abbrev pub number_in : ℕ → ℕ → Data → ℕ
number_in least most d = read_or least (whole_number least most d)

abbrev pub name_in : Data → List ℕ
name_in d = read_or (codes "-") (name_text d)

abbrev pub truth_in : Data → Bool
truth_in d = read_or false (truth d)

abbrev pub kind_in : Data → Kind
kind_in d = read_or Endpoint (kind_text d)

abbrev pub hex_in : Data → List ℕ
hex_in d = read_or [] (hex_text d)

abbrev pub address_in : Data → List ℕ
address_in d = read_or [] (address_text d)

-- the index of a name, by what finds the indices
abbrev pub index_in : (List ℕ → ℕ) → Data → ℕ
index_in find d = find (text_of d)

abbrev pub each_made : {A : Type 0} → (Data → A) → Items → List A
each_made f no_items = []
each_made f (item d ds) = f d ∷ each_made f ds

-- of each item of a list
abbrev pub each_in : {A : Type 0} → (Data → A) → Data → List A
each_in f (array ds) = each_made f ds
each_in f _ = []

-- of each item of a list of at most so many
abbrev pub within_in : {A : Type 0} → ℕ → (Data → A) → Data → List A
within_in most f (array ds) = if nat_le (items_count ds) most then each_made f ds else []
within_in most f _ = []

-- of a value that is not `null`
abbrev pub optional_in : {A : Type 0} → (Data → A) → Data → Option A
optional_in f null = None
optional_in f d = Some (f d)

-- ---- of what stands at a key

abbrev pub found_or : {A : Type 0} → A → (Data → A) → Option Data → A
found_or other f (Some d) = f d
found_or other f None = other

abbrev pub made_at : {A : Type 0} → A → (Data → A) → List ℕ → Data → A
made_at other f key d = found_or other f (get key d)

abbrev pub number_at : List ℕ → ℕ → ℕ → Data → ℕ
number_at key least most d = made_at least (number_in least most) key d

abbrev pub truth_at : List ℕ → Data → Bool
truth_at key d = made_at false truth_in key d

abbrev pub index_at : List ℕ → (List ℕ → ℕ) → Data → ℕ
index_at key find d = made_at (find []) (index_in find) key d

abbrev pub each_at : {A : Type 0} → List ℕ → (Data → A) → Data → List A
each_at key f d = made_at [] (each_in f) key d

abbrev pub within_at : {A : Type 0} → List ℕ → ℕ → (Data → A) → Data → List A
within_at key most f d = made_at [] (within_in most f) key d

abbrev pub optional_at : {A : Type 0} → List ℕ → (Data → A) → Data → Option A
optional_at key f d = made_at None (optional_in f) key d

abbrev pub name_at : Data → List ℕ
name_at d = made_at (codes "-") name_in (codes "name") d

abbrev pub hex_at : Data → List ℕ
hex_at d = made_at [] hex_in (codes "bytes") d

-- ---- plans

abbrev pub bus_made : Data → BusValue
bus_made d =
    record {
      name = name_at d;
      binding = number_at (codes "binding") 0 255 d;
      media = number_at (codes "media") 0 255 d;
    }

abbrev pub port_made : (List ℕ → ℕ) → Data → PortValue
port_made find d =
    record { bus = index_at (codes "bus") find d; address = made_at [] address_in (codes "address") d }

abbrev pub row_made : (List ℕ → ℕ) → Data → RowValue
row_made find d =
    record {
      first = number_at (codes "first") 0 255 d;
      size = number_at (codes "size") 0 255 d;
      port = number_at (codes "port") 0 31 d;
      next = index_at (codes "next") find d;
    }

abbrev pub pool_made : Data → PoolValue
pool_made d = record { first = number_at (codes "first") 0 255 d; size = number_at (codes "size") 0 255 d }

abbrev pub record_made : Data → RecordValue
record_made d =
    record {
      handle = number_at (codes "handle") 0 4294967295 d;
      next = number_at (codes "next") 0 4294967295 d;
      bytes = hex_at d;
    }

abbrev pub terminus_made : Data → TerminusValue
terminus_made d =
    record { tid = number_at (codes "tid") 0 254 d; records = within_at (codes "records") 4096 record_made d }

-- a node, by what finds the indices of buses and of nodes
abbrev pub node_made : (List ℕ → ℕ) → (List ℕ → ℕ) → Data → NodeValue
node_made find_bus find_node d =
    record {
      name = name_at d;
      kind = made_at Endpoint kind_in (codes "kind") d;
      eid = number_at (codes "eid") 0 255 d;
      owner = optional_at (codes "owner") (index_in find_node) d;
      pool = optional_at (codes "pool") pool_made d;
      ports = within_at (codes "ports") 32 (port_made find_bus) d;
      rows = within_at (codes "rows") 256 (row_made find_node) d;
      terminus = optional_at (codes "terminus") terminus_made d;
    }

-- in format 1 the baseline of 64 bytes, in format 2 the number at its key
abbrev pub unit_made : PlanFormat → Data → ℕ
unit_made One d = 64
unit_made Two d = number_at (codes "unit") 64 1024 d

abbrev pub buses_made : Data → List BusValue
buses_made d = within_at (codes "buses") 64 bus_made d

-- nodes that name each other, and the buses of these names
abbrev pub nodes_made : List (List ℕ) → Data → List NodeValue
nodes_made buses d =
    within_at (codes "nodes") 64 (node_made (index_among buses) (index_among (names_at (codes "nodes") d))) d

-- a plan of a format
abbrev pub plan_made : PlanFormat → Data → PlanValue
plan_made f d =
    record { unit = unit_made f d; buses = buses_made d; nodes = nodes_made (bus_names (buses_made d)) d }

-- ---- certificates

abbrev pub level_made : (List ℕ → ℕ) → Data → LevelValue
level_made find d = record { level = number_at (codes "level") 1 63 d; node = index_at (codes "node") find d }

abbrev pub places_made : (List ℕ → ℕ) → Data → PlacesValue
places_made find d =
    record { node = index_at (codes "node") find d; places = each_at (codes "places") (number_in 0 4095) d }

-- the first endpoint ID of a range that has to end at 255 or before
abbrev pub in_time : ℕ → ℕ → ℕ
in_time first size = if nat_le (first + size) 256 then first else 0

abbrev pub range_made : Data → RangeValue
range_made d =
    record {
      first = in_time (number_at (codes "first") 0 255 d) (number_at (codes "size") 1 255 d);
      rank = number_at (codes "rank") 1 255 d;
      size = number_at (codes "size") 1 255 d;
    }

abbrev pub ranks_made : (List ℕ → ℕ) → Data → NodeRanksValue
ranks_made find d = record { node = index_at (codes "node") find d; ranges = each_at (codes "ranges") range_made d }

-- by what finds the indices of nodes
abbrev pub certificate_made : (List ℕ → ℕ) → Data → CertificateValue
certificate_made find d =
    record {
      levels = each_at (codes "levels") (level_made find) d;
      places = each_at (codes "places") (places_made find) d;
      ranks = each_at (codes "ranks") (ranks_made find) d;
    }

-- ---- events

abbrev pub node_at : (List ℕ → ℕ) → Data → ℕ
node_at find d = index_at (codes "node") find d

-- a number of 32 bits
abbrev pub word_at : List ℕ → Data → ℕ
word_at key d = number_at key 0 4294967295 d

abbrev pub expire_made : (List ℕ → ℕ) → Data → EventEntry
expire_made find d =
    expire (node_at find d) (number_at (codes "source") 0 255 d) (number_at (codes "tag") 0 7 d)
    (number_at (codes "owner") 0 1 d == 1)

abbrev pub walk_made : (List ℕ → ℕ) → Data → EventEntry
walk_made find d =
    walk (node_at find d) (number_at (codes "eid") 8 254 d) (number_at (codes "tag") 0 7 d)
    (number_at (codes "count") 8 4079 d)

-- of an event that does this, by what finds the indices of nodes
abbrev pub event_by : List ℕ → (List ℕ → ℕ) → Data → EventEntry
event_by word find d =
    if bytes_eq word (codes "put") then put (node_at find d) (hex_at d)
    else (if bytes_eq word (codes "move") then move (word_at (codes "flight") d) (truth_at (codes "keep") d)
    else (if bytes_eq word (codes "lose") then lose (word_at (codes "flight") d)
    else (if bytes_eq word (codes "expire") then expire_made find d
    else (if bytes_eq word (codes "answer") then answer (node_at find d)
    else (if bytes_eq word (codes "switch") then switch (node_at find d)
    else (if bytes_eq word (codes "walk") then walk_made find d
    else (if bytes_eq word (codes "ask") then ask (word_at (codes "walker") d)
    else collected (word_at (codes "walker") d))))))))

abbrev pub event_made : (List ℕ → ℕ) → Data → EventEntry
event_made find d = event_by (text_at (codes "do") d) find d

abbrev pub events_made : (List ℕ → ℕ) → Data → List EventEntry
events_made find d = within_at (codes "events") most_events (event_made find) d
