-- The rows of a plan's nodes as routing tables, ready for look-ups.
use Rattle.std.specs.Prelude.{◌≡◌, ℕ, List, length, map, slice_get, Option, Some, MatchOption}
use Rattle.mctp_routing.{specs.declared.row.Hop.{Hop}, specs.Rows.{HasSameRoutes, IsNext}}
use Rattle.plan_values.{specs.declared.plan.Plan.{Plan}, specs.declared.nodes.Row.{Row}}
use Rattle.net_tables.{specs.Routing.{rows_of, OfItem, NamesFor}, specs.Rows.{IsInRange, IsApartFromEarlier}}
use Rattle.mctp_routing.specs.declared.row.TableRow as bridge

-- each row lies apart from the rows before it, and its EIDs can be held
abbrev pub AreRows : List Row → Type 0
AreRows rows = (r : ℕ) → OfItem rows r (λ row. IsApartFromEarlier rows r row × IsInRange row)

-- the same row in a routing table
abbrev pub table_row : Row → bridge.TableRow
table_row row = record { first = row.first; size = row.size; hop = record { port = row.port; next = row.next } }

-- so many nodes of the plan have a table that routes as their rows do
pub record AreTabled (plan : Plan) (count : ℕ) (tables : List (List bridge.TableRow)) : Type 0 where
  pub as_many : length tables ≡ count
  pub same : (n : ℕ) (table : List bridge.TableRow) → slice_get tables n ≡ Some table
      → HasSameRoutes (map table_row (rows_of plan n)) table

-- no row covers e; or one does, and names the next node of the hop
abbrev pub IsHopOf : List Row → ℕ → Option Hop → Type 0
IsHopOf rows e hop = MatchOption hop ((m : ℕ) → ¬ NamesFor rows e m) (λ h. NamesFor rows e h.next)

-- the table sends what is for each EID where the rows send it
abbrev pub SendsAs : List Row → List bridge.TableRow → Type 0
SendsAs rows table = (e : ℕ) (hop : Option Hop) → IsNext table e hop → IsHopOf rows e hop

-- so many nodes of the plan have their tables
abbrev pub AreTables : Plan → ℕ → List (List bridge.TableRow) → Type 0
AreTables plan count tables =
    (length tables ≡ count)
    × ((n : ℕ) (table : List bridge.TableRow) → slice_get tables n ≡ Some table → SendsAs (rows_of plan n) table)
