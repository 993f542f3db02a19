-- The routing table entries of a bridge's rows (DSP0236, Get Routing Table Entries; how rows are cut is this project's
-- own).
use Rattle.std.{specs.Prelude.{ℕ, ◌+◌, ◌-◌, Bool, List, [], ◌∷◌, false, if◌then◌else◌, ◌==◌, ◌&&◌, nat_lt}, specs.List.{flat_map, zip}}
use Rattle.mctp_control.{specs.RouteEntries.{EntryValue}, specs.Codes.{kind_number}, specs.declared.route_entry.EntryKind.{EntryKind}}
use Rattle.mctp_routing.specs.declared.row.TableRow.{TableRow}
use Rattle.mctp_transport.{specs.declared.device_kind.DeviceKind.{DeviceKind}, specs.declared.device_kind.DeviceKind.TheVariants.{Bridge, Endpoint}}
use Rattle.mctp_bridge.specs.declared.routing_entries.Neighbor.{Neighbor}
use Rattle.mctp_control.specs.declared.route_entry.EntryKind.TheVariants as kind

-- the entry of so many EIDs from the first on, along the row's port to the neighbor
abbrev pub run_entry : TableRow → Neighbor → (first size : ℕ) → EntryKind → EntryValue
run_entry row next first size kind = record {
  size = size;
  first = first;
  kind = kind_number kind;
  fixed = false;
  port = row.hop.port;
  binding = next.binding;
  media = next.media;
  address = next.address.now;
}

-- the kind of an entry that begins with the bridge's own EID
abbrev pub own_kind : ℕ → EntryKind
own_kind size = if size == 1 then kind.Bridge else kind.BridgeAndRange

-- the row's EIDs from the bridge's own on
abbrev pub own_entry : TableRow → Neighbor → EntryValue
own_entry row next =
    let size = row.first.value + row.size - next.eid.value in run_entry row next next.eid.value size (own_kind size)

-- the row's EIDs before the bridge's own
abbrev pub entry_before : TableRow → Neighbor → EntryValue
entry_before row next = run_entry row next row.first.value (next.eid.value - row.first.value) kind.Range

-- the EID is one of the row's after its first
abbrev pub lies_later : ℕ → TableRow → Bool
lies_later e row = nat_lt row.first.value e && nat_lt e (row.first.value + row.size)

-- the row is cut before the bridge's own EID, if that lies in it
abbrev pub bridge_entries : TableRow → Neighbor → List EntryValue
bridge_entries row next =
    if next.eid.value == row.first.value then own_entry row next ∷ []
    else if lies_later next.eid.value row then entry_before row next ∷ own_entry row next ∷ []
    else run_entry row next row.first.value row.size kind.Range ∷ []

abbrev pub entries_to : DeviceKind → TableRow → Neighbor → List EntryValue
entries_to Endpoint row next = run_entry row next row.first.value row.size kind.Endpoint ∷ []
entries_to Bridge row next = bridge_entries row next

-- the entries of a row to this neighbor
abbrev pub row_entries : TableRow → Neighbor → List EntryValue
row_entries row next = entries_to next.kind row next

-- the entries of the rows, each to its neighbor, row after row
abbrev pub table_entries : List TableRow → List Neighbor → List EntryValue
table_entries rows neighbors = flat_map (λ p. row_entries p.0 p.1) (zip rows neighbors)
