-- Which plans are another one with rows.
use Rattle.std.specs.Prelude.{◌≡◌, ℕ, ◌<◌, Some, length, map, slice_get}
use Rattle.plan_values.{specs.NodeValues.{bus_value, row_value, but_rows}, specs.declared.plan.Plan.{Plan}, specs.declared.certificate.Certificate.{Certificate}, specs.declared.nodes.Row.{Row}}
use Rattle.net_tables.specs.Routing.{rows_of}
use Rattle.net_rules.specs.Rules.{Accepts}
use Rattle.net_reached.specs.Wishes.{ReachesNode}

-- The transmission unit, the buses and the nodes are the same, these but for their rows.
pub record IsSameButRows (before after : Plan) : Type 0 where
  pub unit : before.unit ≡ after.unit
  pub buses : map bus_value before.buses.items ≡ map bus_value after.buses.items
  pub nodes : map but_rows before.nodes.items ≡ map but_rows after.nodes.items

-- n has the row
abbrev pub HasTheRow : Plan → ℕ → Row → Type 0
HasTheRow plan n row =
    (r : ℕ) × (own : Row) × (slice_get (rows_of plan n) r ≡ Some own) × (row_value own ≡ row_value row)

-- the row of n at an index in the old plan, if there is one, is one of its rows in the new plan
abbrev pub IsRowOfNodeKept : Plan → Plan → ℕ → ℕ → Type 0
IsRowOfNodeKept before after n r = (row : Row) → slice_get (rows_of before n) r ≡ Some row → HasTheRow after n row

-- so it is of each row of n
abbrev pub AreRowsOfNodeKept : Plan → Plan → ℕ → Type 0
AreRowsOfNodeKept before after n = (r : ℕ) → IsRowOfNodeKept before after n r

-- and of each node
abbrev pub AreRowsOfAllKept : Plan → Plan → Type 0
AreRowsOfAllKept before after = (n : ℕ) → n < length before.nodes.items → AreRowsOfNodeKept before after n

-- packets that are put in at a reach all nodes
abbrev pub ReachesAll : Plan → ℕ → Type 0
ReachesAll plan a = (b : ℕ) → b < length plan.nodes.items → ReachesNode plan a b

-- so it is of each node
abbrev pub AllReachAll : Plan → Type 0
AllReachAll plan = (a : ℕ) → a < length plan.nodes.items → ReachesAll plan a

-- Every rule holds of the plan, by some certificate, and all its nodes reach each other.
pub record IsWhole (plan : Plan) : Type 0 where
  pub certificate : Certificate
  pub accepted : Accepts plan certificate
  pub reaches : AllReachAll plan

-- Every rule holds of the new plan and the certificate, and it is the old one but for its rows, in which it has the old
-- ones.
pub record IsKeptIn (before after : Plan) (certificate : Certificate) : Type 0 where
  pub accepted : Accepts after certificate
  pub same : IsSameButRows before after
  pub rows : AreRowsOfAllKept before after

-- so it is, and all nodes of the new plan reach each other
pub record IsRowedFrom (before after : Plan) (certificate : Certificate) : Type 0 where
  pub kept : IsKeptIn before after certificate
  pub reaches : AllReachAll after
