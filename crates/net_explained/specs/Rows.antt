-- What a node's row covers.
use Rattle.std.specs.Prelude.{◌≡◌, ℕ, Some, slice_get}
use Rattle.net_tables.specs.Routing.{rows_of, Covers}
use Rattle.plan_values.{specs.declared.nodes.Row.{Row}, specs.declared.plan.Plan.{Plan}}

-- n's row r, if n has it, is such a row
abbrev pub HasRowThat : Plan → ℕ → ℕ → (Row → Type 0) → Type 0
HasRowThat plan n r P = (row : Row) × (slice_get (rows_of plan n) r ≡ Some row) × P row

-- n's row r covers e
abbrev pub CoversAt : Plan → ℕ → ℕ → ℕ → Type 0
CoversAt plan n r e = HasRowThat plan n r (λ row. Covers row e)
