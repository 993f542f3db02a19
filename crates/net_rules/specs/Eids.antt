-- Each node holds an EID of its own.
use Rattle.std.specs.Prelude.{ℕ, ◌<◌}
use Rattle.plan_values.specs.declared.plan.Plan.{Plan}
use Rattle.net_tables.specs.Routing.{Holds}

-- no earlier node holds e
unfoldable pub IsNewlyHeld : Plan → ℕ → ℕ → Type 0
IsNewlyHeld plan n e = (m : ℕ) → m < n → ¬ Holds plan m e
