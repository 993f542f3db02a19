-- The rows of a routing table (DSP0236, bridging): which endpoint IDs each covers, and which rows make a table.
use Rattle.std.specs.Prelude.{◌≡◌, ◌⊎◌, ◌↔◌, ℕ, ◌+◌, ◌<◌, ◌≤◌, List, Option, Some, None, All, Any, AllPairs}
use Rattle.mctp_routing.{specs.declared.row.TableRow.{TableRow}, specs.declared.row.Hop.{Hop}}

-- e is one of the row's EIDs; a row that reaches past 255 covers those up to 255
abbrev pub Covers : TableRow → ℕ → Type 0
Covers row e = (row.first.value ≤ e) × (e < row.first.value + row.size) × (e ≤ 255)

-- the row covers no EID
abbrev pub IsEmpty : TableRow → Type 0
IsEmpty row = row.size ≡ 0

-- the row begins below 8 or reaches past 254
abbrev pub IsOutside : TableRow → Type 0
IsOutside row = (row.first.value < 8) ⊎ (255 < row.first.value + row.size)

-- no EID lies in both rows
unfoldable pub AreApart : TableRow → TableRow → Type 0
AreApart row other = (e : ℕ) → Covers row e → ¬ Covers other e

-- the row covers an EID, and all of its EIDs can be held
abbrev pub IsLawful : TableRow → Type 0
IsLawful row = ¬ IsEmpty row × ¬ IsOutside row

-- each row is lawful by itself, and no two of them share an EID
pub record AreLawful (rows : List TableRow) : Type 0 where
  pub each : All IsLawful rows
  pub apart : AllPairs AreApart rows

-- some row covers e and sends its packets along this hop
abbrev pub Routes : List TableRow → ℕ → Hop → Type 0
Routes rows e hop = Any (λ row. Covers row e × (row.hop ≡ hop)) rows

-- the hop of e: some row's that covers e, or none where no row covers e
abbrev pub IsNext : List TableRow → ℕ → Option Hop → Type 0
IsNext rows e None = (hop : Hop) → ¬ Routes rows e hop
IsNext rows e (Some hop) = Routes rows e hop

-- both lists of rows send packets along the same hops
abbrev pub HasSameRoutes : List TableRow → List TableRow → Type 0
HasSameRoutes rows others = (e : ℕ) (hop : Hop) → Routes rows e hop ↔ Routes others e hop

-- the row's EIDs lie below the other's
abbrev pub LiesBelow : TableRow → TableRow → Type 0
LiesBelow row other = row.first.value + row.size ≤ other.first.value

-- each row is lawful, and its EIDs lie below those of all later rows
pub record IsTable (rows : List TableRow) : Type 0 where
  pub each : All IsLawful rows
  pub ascending : AllPairs LiesBelow rows
