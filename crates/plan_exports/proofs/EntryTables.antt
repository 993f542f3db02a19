-- The entries of a planned bridge: at most as many as there are endpoint IDs, each with a short address.
use Rattle.std.{proofs.Common.{rules, ◌≡◌, ℕ, suc, ◌+◌, ◌<◌, ◌≤◌, ◌==◌, Bool, true, false, List, [], ◌∷◌, length, get_or, map, Option, None, Some, refl, sym, ap, subst, ◌∙◌, inl, inr, arith, length-append}, specs.Prelude.{◌⊎◌, All, find, slice_get, option_map, unwrap_or}, specs.List.{zip}, proofs.lemmas.Bool.{cases_lt, ltb-true}, proofs.lemmas.List.{get_or-map, length-map}, proofs.lemmas.List.Concat.{flat_map-cons}, proofs.lemmas.List.Elements.{All-append, All-cons, All-map, All-nil, All-tail}, proofs.lemmas.List.Sorted.{All-permutation}, proofs.lemmas.Option.{slice_get_within, slice_get-get_or}}
use Rattle.mctp_transport.{specs.declared.device_kind.DeviceKind.{DeviceKind}, specs.declared.device_kind.DeviceKind.TheVariants.{Bridge, Endpoint}}
use Rattle.mctp_routing.{specs.declared.row.TableRow.{TableRow}, specs.Rows.{IsTable, IsLawful}}
use Rattle.mctp_bridge.{specs.Entries.{row_entries, entries_to, bridge_entries, table_entries, lies_later, own_entry, entry_before, run_entry}, specs.declared.routing_entries.Neighbor.{Neighbor}, specs.Reads.{AreShort}}
use Rattle.mctp_control.specs.RouteEntries.{EntryValue}
use Rattle.plan_values.{specs.declared.nodes.Node.{Node}, specs.declared.nodes.Port.{Port}, specs.declared.nodes.Row.{Row}, specs.declared.plan.Plan.{Plan}, proofs.Placed.{both}}
use Rattle.net_tables.{specs.Routing.{rows_of, ports_of, node_at}, specs.Rows.{NamesNeighbor, IsJoined, bus_of}, specs.Tables.{table_row}, proofs.Elements.{element}, specs.Names.{address_on}}
use Rattle.plan_exports.{specs.Neighbors.{neighbor_value, neighbor_of}, specs.PlannedTables.{IsPlannedTable, HasLawfulRows}}
use Rattle.mctp_control.specs.declared.route_entry.EntryKind.TheVariants as kind

-- ---- how many entries

later_within : (e : ℕ) (row : TableRow) → lies_later e row ≡ true → (row.first.value < e) × (e < row.first.value + row.size)
later_within e row is =
    let both = both _ _ is in
    (ltb-true _ _ both.0, ltb-true _ _ both.1)

-- a row has no more entries than endpoint IDs
entry_count : (row : TableRow) (next : Neighbor) → 1 ≤ row.size → length (row_entries row next) ≤ row.size
entry_count row next some = by next.kind
  where
    cut : (same later : Bool) → (next.eid.value == row.first.value) ≡ same → lies_later next.eid.value row ≡ later → length (bridge_entries row next) ≤ row.size
    cut true later p q = rw p some
    cut false true p q = let within = later_within next.eid.value row q in rw (p, q) (omega (arith, within))
    cut false false p q = rw (p, q) some

    by : (kind : DeviceKind) → length (entries_to kind row next) ≤ row.size
    by Endpoint = some
    by Bridge = cut (next.eid.value == row.first.value) (lies_later next.eid.value row) refl refl

table_tail : (row : TableRow) (rows : List TableRow) → IsTable (row ∷ rows) → IsTable rows
table_tail row rows is = record {
  each = All-tail IsLawful row rows is.each;
  ascending = λ i j d less lt. is.ascending (suc i) (suc j) d (omega (arith, less)) (omega (arith, lt));
}

-- a table of rows from an endpoint ID on has at most as many entries as there are endpoint IDs up to 254
few_entries : (rows : List TableRow) (neighbors : List Neighbor) (from : ℕ) → IsTable rows → All (λ (row : TableRow). from ≤ row.first.value) rows → from ≤ 255
    → from + length (table_entries rows neighbors) ≤ 255
few_entries [] neighbors from is above low = omega arith
few_entries (row ∷ rows) [] from is above low = omega arith
few_entries (row ∷ rows) (next ∷ neighbors) from is above low =
    let lawful = is.each 0 row (omega arith) in
    let first = above 0 row (omega arith) in
    let some : 1 ≤ row.size = positive row lawful.0 in
    let end : row.first.value + row.size ≤ 255 = inside row lawful.1 in
    let count = entry_count row next some in
    let rest = few_entries rows neighbors (row.first.value + row.size) (table_tail row rows is) (λ k d lt. is.ascending 0 (suc k) d (omega arith) (omega (arith, lt))) end in
    let long = length-append (row_entries row next) (table_entries rows neighbors) in
    rw (flat_map-cons (λ (p : TableRow × Neighbor). row_entries p.0 p.1) (row, next) (zip rows neighbors)) (omega (arith, first, count, rest, long))
  where
    positive : (row : TableRow) → (row.size ≡ 0 → ⊥) → 1 ≤ row.size
    positive row some = elim (cases_lt 0 row.size) [ inl lt ↦ lt | inr none ↦ absurd (some (omega (arith, none))) ]

    inside : (row : TableRow) → ((row.first.value < 8) ⊎ (255 < row.first.value + row.size) → ⊥) → row.first.value + row.size ≤ 255
    inside row within = elim (cases_lt 255 (row.first.value + row.size)) [ inl gt ↦ absurd (within (inr gt)) | inr le ↦ le ]

-- ---- short addresses

abbrev IsShort : EntryValue → Type 0
IsShort e = length e.address ≤ 8

abbrev HasShort : Neighbor → Type 0
HasShort next = length next.address.now ≤ 8

alone_short : (e : EntryValue) → IsShort e → All IsShort (e ∷ [])
alone_short e is = All-cons IsShort e [] is (All-nil IsShort)

-- each entry of a row has the address of the neighbor
entry_addresses : (row : TableRow) (next : Neighbor) → HasShort next → All IsShort (row_entries row next)
entry_addresses row next short = by next.kind
  where
    cut : (same later : Bool) → (next.eid.value == row.first.value) ≡ same → lies_later next.eid.value row ≡ later → All IsShort (bridge_entries row next)
    cut true later p q = rw p (alone_short (own_entry row next) short)
    cut false true p q = rw (p, q) (All-cons IsShort (entry_before row next) (own_entry row next ∷ []) short (alone_short (own_entry row next) short))
    cut false false p q = rw (p, q) (alone_short (run_entry row next row.first.value row.size kind.Range) short)

    by : (kind : DeviceKind) → All IsShort (entries_to kind row next)
    by Endpoint = alone_short (run_entry row next row.first.value row.size kind.Endpoint) short
    by Bridge = cut (next.eid.value == row.first.value) (lies_later next.eid.value row) refl refl

table_addresses : (rows : List TableRow) (neighbors : List Neighbor) → All HasShort neighbors → All IsShort (table_entries rows neighbors)
table_addresses [] neighbors short = All-nil IsShort
table_addresses (row ∷ rows) [] short = All-nil IsShort
table_addresses (row ∷ rows) (next ∷ neighbors) short =
    let rest = table_addresses rows neighbors (All-tail HasShort next neighbors short) in
    rw (flat_map-cons (λ (p : TableRow × Neighbor). row_entries p.0 p.1) (row, next) (zip rows neighbors))
    (All-append IsShort (row_entries row next) (table_entries rows neighbors) (entry_addresses row next (short 0 next (omega arith))) rest)

port_address : (port : Option Port) → length (unwrap_or (option_map (λ (p : Port). p.address.items) port) []) ≤ 8
port_address None = omega arith
port_address (Some port) = search (rules, port.short)

short_on : (plan : Plan) (n : ℕ) (bus : Option ℕ) → length (address_on plan n bus) ≤ 8
short_on plan n None = omega arith
short_on plan n (Some bus) = port_address (find (λ (port : Port). port.bus == bus) (ports_of plan n))

-- the addresses of neighbors are those of ports
pub short_neighbors : (plan : Plan) (n : ℕ) (table : List TableRow) (neighbors : List Neighbor) → IsPlannedTable plan n table neighbors
    → All HasShort neighbors
short_neighbors plan n table neighbors is k d lt =
    let long = length-map neighbors neighbor_value in
    let other = length-map table (λ (row : TableRow). neighbor_of plan n row.hop) in
    let same = ap length is.led in
    let within : k < length table = omega (arith, lt, long, other, same) in
    let row = element table k within in
    let value = ap (λ vs. get_or vs k (neighbor_value d)) is.led in
    let left = get_or-map neighbor_value neighbors k d (neighbor_value d) lt in
    let right = get_or-map (λ (row : TableRow). neighbor_of plan n row.hop) table k row.0 (neighbor_value d) within in
    let is_value : neighbor_value (get_or neighbors k d) ≡ neighbor_of plan n (get_or table k row.0).hop =
    sym left ∙ value ∙ right in
    subst (λ (v : _). length v.address ≤ 8) (sym is_value) (short_on plan (get_or table k row.0).hop.next _)

pub short_entries : (plan : Plan) (n : ℕ) (table : List TableRow) (neighbors : List Neighbor) → IsPlannedTable plan n table neighbors
    → AreShort (table_entries table neighbors)
short_entries plan n table neighbors is = record {
  few =
      let lawful = few_entries table neighbors 8 is.ordered.ordered (λ k d lt. low (get_or table k d) (is.ordered.ordered.each k d lt)) (omega arith) in
      omega (arith, lawful);
  short = table_addresses table neighbors (short_neighbors plan n table neighbors is);
}
  where
    low : (row : TableRow) → IsLawful row → 8 ≤ row.first.value
    low row lawful = elim (cases_lt row.first.value 8) [ inl lt ↦ absurd (lawful.1 (inl lt)) | inr ge ↦ ge ]

-- ---- ports

few_ports : (node : Option Node) (p : ℕ) (port : Port) → slice_get (unwrap_or (option_map (λ (node : Node). node.ports.items) node) []) p ≡ Some port → p < 32
few_ports None p port is = absurd (omega (arith, slice_get_within {A = Port} [] p port is))
few_ports (Some node) p port is = let few = node.few_ports in let lt = slice_get_within node.ports.items p port is in search (rules, few, lt)

has_port : (plan : Plan) (n p bus : ℕ) → bus_of plan n p ≡ Some bus → p < 32
has_port plan n p bus is = by (slice_get (ports_of plan n) p) refl is
  where
    by : (port : Option Port) → slice_get (ports_of plan n) p ≡ port → option_map (λ (port : Port). port.bus) port ≡ Some bus → p < 32
    by None at e = absurd (cc)
    by (Some port) at e = few_ports (node_at plan n) p port at

joined_port : (plan : Plan) (n : ℕ) (row : Row) → NamesNeighbor plan n row → row.port < 32
unfolding NamesNeighbor IsJoined
joined_port plan n row (other, (bus, is, on), bridge) = has_port plan n row.port bus is

-- the port of each row is one of a node's
pub row_ports : (plan : Plan) (n : ℕ) (table : List TableRow) (neighbors : List Neighbor) → HasLawfulRows plan n → IsPlannedTable plan n table neighbors
    → All (λ (row : TableRow). row.hop.port < 32) table
row_ports plan n table neighbors lawful is = All-permutation (λ (row : TableRow). row.hop.port < 32) (map table_row (rows_of plan n)) table is.ordered.rows
    (All-map (λ (row : TableRow). row.hop.port < 32) table_row (rows_of plan n) (λ k d lt.
    joined_port plan n (get_or (rows_of plan n) k d) (lawful.neighbors k (get_or (rows_of plan n) k d) (slice_get-get_or (rows_of plan n) k d lt))))
