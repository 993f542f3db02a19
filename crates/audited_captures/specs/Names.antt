-- What endpoint IDs are called in lines.
use Rattle.std.{specs.Prelude.{◌≡◌, ◌⊎◌, ℕ, List}, specs.Fmt.{decimal}}
use Rattle.plan_values.specs.declared.plan.Plan.{Plan}
use Rattle.net_tables.{specs.Routing.{Holds, IsHeld}, specs.Names.{node_name}}

-- an endpoint ID by the node that holds it, or by its number
abbrev pub IsNameOf : Plan → ℕ → List ℕ → Type 0
IsNameOf plan e text =
    ((n : ℕ) × Holds plan n e × (text ≡ node_name plan n)) ⊎ ((¬ IsHeld plan e) × (text ≡ decimal e))
