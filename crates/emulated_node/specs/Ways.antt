-- Where the packets go that a node sends: over which bus, and to whom there.
use Rattle.std.{specs.Prelude.{◌≡◌, ℕ, ◌+◌, ◌==◌, ◌&&◌, Bool, not, nat_le, nat_lt, List, [], Option, Some, None, find, if◌then◌else◌, option_map, slice_get}, specs.Option.{option_and_then}}
use Rattle.mctp_routing.{specs.declared.row.TableRow.{TableRow}, specs.declared.row.Hop.{Hop}}
use Rattle.plan_values.{specs.declared.nodes.Port.{Port}, specs.declared.plan.Plan.{Plan}}
use Rattle.net_tables.{specs.Names.{address_on}, specs.Routing.{ports_of}, specs.Rows.{bus_of}}
use Rattle.emulated_node.specs.declared.way.Way.{Way}

-- the port is on the bus, with this physical address
abbrev pub IsPortAt : Port → (bus : ℕ) → (address : List ℕ) → Type 0
IsPortAt port bus address = (port.bus ≡ bus) × (port.address.items ≡ address)

-- n has such a port
abbrev pub IsAt : Plan → ℕ → (bus : ℕ) → (address : List ℕ) → Type 0
IsAt plan n bus address =
    (p : ℕ) × (port : Port) × (slice_get (ports_of plan n) p ≡ Some port) × IsPortAt port bus address

-- e is one of the row's endpoint IDs
abbrev pub covers : ℕ → TableRow → Bool
covers e row = nat_le row.first.value e && nat_lt e (row.first.value + row.size)

-- along the hop: over the bus of its port, to its next node; none where n hasn't the port
abbrev pub hop_way : Plan → ℕ → Hop → Option Way
hop_way plan n hop = option_map (λ bus. record { bus = bus; next = Some hop.next }) (bus_of plan n hop.port)

-- along the row of n that covers e, if one does
abbrev pub row_way : Plan → ℕ → List TableRow → ℕ → Option Way
row_way plan n rows e = option_and_then (λ row. hop_way plan n row.hop) (find (covers e) rows)

-- back over the bus, to where a request came from
abbrev pub back_over : ℕ → Way
back_over bus = record { bus = bus; next = None }

-- A packet that is sent for one that came over a bus goes this way. A request for the endpoint ID 0 is one to whoever
-- is reached over the bus, so its answer goes back over that bus (DSP0236, null endpoint ID).
abbrev pub way_or_back : (over asked : ℕ) → Option Way → Way
way_or_back over asked (Some way) = if (asked == 0) && not (way.bus == over) then back_over over else way
way_or_back over asked None = back_over over

-- A packet of n to e, sent for one to `asked` that came over a bus, goes along the row for e, and where none covers it,
-- back over that bus.
abbrev pub way_of : Plan → ℕ → List TableRow → (over asked e : ℕ) → Way
way_of plan n rows over asked e = way_or_back over asked (row_way plan n rows e)

-- the physical address of the next node on the bus; no bytes where nothing is known of it
abbrev pub next_address : Plan → ℕ → Option ℕ → List ℕ
next_address plan bus (Some n) = address_on plan n (Some bus)
next_address plan bus None = []

abbrev pub way_address : Plan → Way → List ℕ
way_address plan way = next_address plan way.bus way.next
