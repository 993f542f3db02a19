-- The rows of a plan's nodes.
use Rattle.std.specs.Prelude.{◌≡◌, ℕ, List}
use Rattle.plan_values.{specs.declared.plan.Plan.{Plan}, specs.declared.nodes.Row.{Row}}
use Rattle.net_tables.specs.Routing.{OfItem, rows_of}

-- lists of rows by the index of a node, each as the plan has it of that node
abbrev pub AreRowsByNode : Plan → List (List Row) → Type 0
AreRowsByNode plan lists = (n : ℕ) → OfItem lists n (λ rows. rows ≡ rows_of plan n)
