-- Stretches of neighboring EIDs that the nodes of a plan send on alike.
use Rattle.std.specs.Prelude.{◌≡◌, ◌⊎◌, ◌↔◌, ℕ, ◌+◌, ◌≤◌, List, Option, Some, Any, slice_get}
use Rattle.mctp_routing.{specs.declared.row.Hop.{Hop}, specs.declared.row.TableRow.{TableRow}, specs.Rows.{IsNext}}
use Rattle.plan_values.specs.declared.plan.Plan.{Plan}
use Rattle.net_tables.specs.Routing.{Holds, MovesTo}

-- from n, what is for an EID from first to last moves on just as what is for the first does
abbrev pub MovesAlike : Plan → (first last n : ℕ) → Type 0
MovesAlike plan first last n = (e : ℕ) → first ≤ e → e ≤ last → (m : ℕ) → MovesTo plan first n m ↔ MovesTo plan e n m

-- and so from each node
abbrev pub MoveAlike : Plan → (first last : ℕ) → Type 0
MoveAlike plan first last = (n : ℕ) → MovesAlike plan first last n

-- n holds each EID from first to last or none of them
abbrev pub HoldsAlike : Plan → (first last n : ℕ) → Type 0
HoldsAlike plan first last n = (e : ℕ) → first ≤ e → e ≤ last → Holds plan n first ↔ Holds plan n e

-- the EIDs from first to last have one hop, or none of them has any
abbrev pub HaveOneHop : List TableRow → (first last : ℕ) → Type 0
HaveOneHop rows first last = (hop : Option Hop) × ((e : ℕ) → first ≤ e → e ≤ last → IsNext rows e hop)

-- n holds e or the EID after it
abbrev pub HoldsBeside : Plan → (n e : ℕ) → Type 0
HoldsBeside plan n e = Holds plan n e ⊎ Holds plan n (e + 1)

-- one of the rows ends with e or begins after it
abbrev pub HaveEdge : List TableRow → ℕ → Type 0
HaveEdge rows e = Any (λ row. (row.first.value + row.size ≡ e + 1) ⊎ (row.first.value ≡ e + 1)) rows

-- n, which has these rows, may send on what is for the EID after e otherwise than what is for e
abbrev pub IsCutAt : Plan → (n : ℕ) → List TableRow → ℕ → Type 0
IsCutAt plan n rows e = HoldsBeside plan n e ⊎ HaveEdge rows e

-- and so may some node
abbrev pub IsCut : Plan → List (List TableRow) → ℕ → Type 0
IsCut plan tables e = (n : ℕ) × (rows : List TableRow) × (slice_get tables n ≡ Some rows) × IsCutAt plan n rows e
