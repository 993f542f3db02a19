-- How many there are of each message key and destination, of endpoint IDs that are known.
use Rattle.std.specs.Prelude.{ℕ, ◌+◌, ◌*◌, ◌==◌, ◌&&◌, nat_lt, if◌then◌else◌, List, Bool, Option, Some, None, option_map, option_and_then, slice_get}
use Rattle.mctp_transport.{specs.PacketValues.{KeyValue, bit}, specs.Histories.{same_key}, specs.declared.address.Eid.{Eid}}
use Rattle.net_sim.{specs.declared.key_counts.KnownEids.{KnownEids}, specs.declared.key_counts.KeyCounts.{KeyCounts}}

-- an index below 64, where the endpoint ID stands there
abbrev pub if_there : List Eid → ℕ → ℕ → Option ℕ
if_there eids e i =
    option_and_then (λ (eid : Eid). if nat_lt i 64 && (eid.value == e) then Some i else None) (slice_get eids i)

-- where an endpoint ID stands among those that are known, if its hint leads there
abbrev pub known_at : KnownEids → ℕ → Option ℕ
known_at known e = option_and_then (if_there known.eids.items e) (slice_get known.hints.items e)

-- the place of a key's counter
abbrev pub place_of : (sources destinations : KnownEids) → KeyValue → ℕ → Option ℕ
place_of sources destinations k d =
    option_and_then (λ i. option_map (λ j. 1024 * i + 16 * j + 2 * k.tag + bit k.owner) (known_at sources k.source))
    (known_at destinations d)

-- what is counted of a key and a destination; none where an endpoint ID is not known
abbrev pub count_of : KeyCounts → KeyValue → ℕ → Option ℕ
count_of counts k d = option_and_then (slice_get counts.counts.items) (place_of counts.sources counts.destinations k d)

-- the key and the destination are these
abbrev pub are_these : KeyValue → ℕ → KeyValue → ℕ → Bool
are_these key destination k d = same_key key k && (destination == d)
