-- The owners, the pools and the levels of nodes, as a plan and its certificate give them.
use Rattle.std.{specs.Prelude.{◌≡◌, ℕ, ◌+◌, ◌<◌, ◌≤◌, ◌==◌, List, Option, Some, option_map, unwrap_or, find}, specs.Option.{option_and_then}}
use Rattle.plan_values.{specs.declared.plan.Plan.{Plan}, specs.declared.nodes.Pool.{Pool}, specs.declared.certificate.Certificate.{Certificate}, specs.declared.certificate.NodeLevel.{NodeLevel}}
use Rattle.net_tables.specs.Routing.{node_at}

-- the node that owns n; none where none does, and beyond the plan
abbrev pub owner_of : Plan → ℕ → Option ℕ
owner_of plan n = option_and_then (λ node. node.owner) (node_at plan n)

abbrev pub IsOwnedBy : Plan → ℕ → ℕ → Type 0
IsOwnedBy plan n owner = owner_of plan n ≡ Some owner

-- the pool of n; none where it has none, and beyond the plan
abbrev pub pool_of : Plan → ℕ → Option Pool
pool_of plan n = option_and_then (λ node. node.pool) (node_at plan n)

-- e is one of the pool's EIDs
abbrev pub IsInPool : Pool → ℕ → Type 0
IsInPool pool e = (pool.first.value ≤ e) × (e < pool.first.value + pool.size)

-- n has a pool, and e is one of its EIDs
unfoldable pub IsInPoolOf : Plan → ℕ → ℕ → Type 0
IsInPoolOf plan n e = (pool : Pool) × (pool_of plan n ≡ Some pool) × IsInPool pool e

-- the level that the list gives n, 0 where it gives none
abbrev pub level_given : List NodeLevel → ℕ → ℕ
level_given levels n = unwrap_or (option_map (λ given. given.level) (find (λ given. given.node == n) levels)) 0

abbrev pub given_level : Certificate → ℕ → ℕ
given_level cert n = level_given cert.levels.items n

-- the level of n: 0 where it has no owner, whatever is given
abbrev pub level : Plan → Certificate → ℕ → ℕ
level plan cert n = unwrap_or (option_map (λ _. given_level cert n) (owner_of plan n)) 0
