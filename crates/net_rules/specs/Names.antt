-- No two nodes have one name.
use Rattle.std.specs.Prelude.{◌≡◌, ℕ, ◌<◌, List, Option, Some, option_map, string_bytes}
use Rattle.plan_values.specs.declared.plan.Plan.{Plan}
use Rattle.net_tables.specs.Routing.{node_at}

-- a node's name; none beyond the plan
abbrev pub name_of : Plan → ℕ → Option (List ℕ)
name_of plan n = option_map (λ node. string_bytes node.name.text) (node_at plan n)

-- both nodes have a name, the same one
unfoldable pub HaveOneName : Plan → ℕ → ℕ → Type 0
HaveOneName plan m n = (name : List ℕ) × (name_of plan m ≡ Some name) × (name_of plan n ≡ Some name)

-- no earlier node has the node's name
unfoldable pub HasNewName : Plan → ℕ → Type 0
HasNewName plan n = (m : ℕ) → m < n → ¬ HaveOneName plan m n
