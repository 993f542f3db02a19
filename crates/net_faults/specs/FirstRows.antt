-- Where what is for an EID goes on to by the first row that covers it, also where rows of a node lie over each other.
use Rattle.std.specs.Prelude.{◌≡◌, ℕ, ◌<◌, List, length, slice_get, Option, Some, MatchOption, Vec}
use Rattle.plan_values.{specs.declared.plan.Plan.{Plan}, specs.declared.nodes.Row.{Row}}
use Rattle.net_tables.specs.Routing.{rows_of, Covers, Holds, OfItem}
use Rattle.net_rules.{specs.Moves.{IsEnd}, specs.Circles.{MovesBy}}
use Rattle.net_faults.specs.Circles.{AreJoined}

-- the row covers e, and none before it in the list does
abbrev pub IsFirstRow : List Row → ℕ → Row → Type 0
IsFirstRow rows e row = (r : ℕ) × (slice_get rows r ≡ Some row) × Covers row e
    × ((k : ℕ) → k < r → OfItem rows k (λ other. ¬ Covers other e))

-- what is for e goes on from n to m: n doesn't hold e, and its first row for e names m
abbrev pub GoesTo : Plan → ℕ → ℕ → ℕ → Type 0
GoesTo plan e n m = ¬ Holds plan n e × (row : Row) × IsFirstRow (rows_of plan n) e row × (row.next ≡ m)

-- the table has, for each of so many nodes, where what is for e goes on to
pub record AreGoings (plan : Plan) (e count : ℕ) (table : List (Option ℕ)) : Type 0 where
  pub long : length table ≡ count
  pub goings : (n : ℕ) (next : Option ℕ) → slice_get table n ≡ Some next
      → MatchOption next (IsEnd (GoesTo plan e) n) (GoesTo plan e n)

-- a table of where what is for each EID goes on to
abbrev pub AreTables : {Z : Type 0} → Plan → List (Vec (Option ℕ) Z) → Type 0
AreTables {Z} plan tables = (length tables ≡ 256) × ((e : ℕ) (table : Vec (Option ℕ) Z)
    → slice_get tables e ≡ Some table → AreGoings plan e (length plan.nodes.items) table.items)

-- each node but the last moves to the one after it by the table of e
abbrev pub IsJoinedBy : {Z : Type 0} → List (Vec (Option ℕ) Z) → ℕ → List ℕ → Type 0
IsJoinedBy {Z} tables e nodes =
    (table : Vec (Option ℕ) Z) × (slice_get tables e ≡ Some table) × AreJoined (MovesBy table.items) nodes
