-- A node's rows: each is lawful by itself, apart from the others, and leads to a neighbor.
use Rattle.std.{specs.Prelude.{◌≡◌, ◌≢◌, ℕ, ◌+◌, ◌≤◌, List, Some, slice_get, IsTrue, ◌==◌, All, take, Option, option_map}, specs.List.{list_any}}
use Rattle.plan_values.{specs.declared.plan.Plan.{Plan}, specs.declared.nodes.Row.{Row}}
use Rattle.net_tables.specs.Routing.{rows_of, ports_of, IsBridge, Covers, OfItem}

-- the row has at least one EID, and all of its EIDs can be held
unfoldable pub IsInRange : Row → Type 0
IsInRange row = (1 ≤ row.size) × (8 ≤ row.first.value) × (row.first.value + row.size ≤ 255)

-- no EID lies in both rows
unfoldable pub AreApart : Row → Row → Type 0
AreApart row other = (e : ℕ) → Covers row e → ¬ Covers other e

-- the row lies apart from each row before it
unfoldable pub IsApartFromEarlier : List Row → ℕ → Row → Type 0
IsApartFromEarlier rows r row = All (AreApart row) (take r rows)

-- each row lies apart from the rows before it
abbrev pub RowsAreApart : Plan → Type 0
RowsAreApart plan = (n r : ℕ) → OfItem (rows_of plan n) r (IsApartFromEarlier (rows_of plan n) r)

-- each row has EIDs, and all of them can be held
abbrev pub RowsAreInRange : Plan → Type 0
RowsAreInRange plan = (n r : ℕ) → OfItem (rows_of plan n) r IsInRange

-- one of the node's ports is on the bus
abbrev pub IsOnBus : Plan → ℕ → ℕ → Type 0
IsOnBus plan n bus = IsTrue (list_any (λ port. port.bus == bus) (ports_of plan n))

-- the bus of a node's port
abbrev pub bus_of : Plan → ℕ → ℕ → Option ℕ
bus_of plan n p = option_map (λ port. port.bus) (slice_get (ports_of plan n) p)

-- n has this port, and m has a port on its bus
unfoldable pub IsJoined : Plan → ℕ → ℕ → ℕ → Type 0
IsJoined plan n p m = (bus : ℕ) × (bus_of plan n p ≡ Some bus) × IsOnBus plan m bus

-- The row's port exists; its next node is another node with a port on that port's bus; a row of several EIDs names
-- a bridge.
unfoldable pub NamesNeighbor : Plan → ℕ → Row → Type 0
NamesNeighbor plan n row = (row.next ≢ n) × IsJoined plan n row.port row.next × (2 ≤ row.size → IsBridge plan row.next)
