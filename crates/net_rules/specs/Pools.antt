-- The pools of endpoint IDs: who may have one, and which of the nodes' EIDs lie in it.
use Rattle.std.specs.Prelude.{◌≡◌, ℕ, ◌+◌, ◌<◌, ◌≤◌, Some}
use Rattle.plan_values.{specs.declared.plan.Plan.{Plan}, specs.declared.nodes.Pool.{Pool}}
use Rattle.net_tables.{specs.Routing.{IsBridge}, specs.Ownership.{owner_of, IsOwnedBy, IsInPool, IsInPoolOf, pool_of}}

-- e lies in the pool of n's owner, if n has an owner
unfoldable pub IsInOwnersPool : Plan → ℕ → ℕ → Type 0
IsInOwnersPool plan n e = (owner : ℕ) → IsOwnedBy plan n owner → IsInPoolOf plan owner e

-- e lies in no pool of a bridge with n's owner, where 'none' counts as an owner and n is among them
unfoldable pub IsInNoPeersPool : Plan → ℕ → ℕ → Type 0
IsInNoPeersPool plan n e =
    (peer : ℕ) → IsBridge plan peer → owner_of plan peer ≡ owner_of plan n → ¬ IsInPoolOf plan peer e

-- e lies where the EID of n has to
unfoldable pub IsInItsPool : Plan → ℕ → ℕ → Type 0
IsInItsPool plan n e = IsInOwnersPool plan n e × IsInNoPeersPool plan n e

-- the pool has at least one EID, and all of its EIDs can be held
unfoldable pub IsPoolInRange : Pool → Type 0
IsPoolInRange pool = (1 ≤ pool.size) × (8 ≤ pool.first.value) × (pool.first.value + pool.size ≤ 255)

-- each EID of the pool lies in the pool of n's owner, if n has an owner
unfoldable pub LiesInOwnersPool : Plan → ℕ → Pool → Type 0
LiesInOwnersPool plan n pool =
    (owner : ℕ) → IsOwnedBy plan n owner → (e : ℕ) → IsInPool pool e → IsInPoolOf plan owner e

-- no EID of the pool lies in the pool of an earlier node with n's owner, where 'none' counts as an owner
unfoldable pub LiesApartFromEarlierPools : Plan → ℕ → Pool → Type 0
LiesApartFromEarlierPools plan n pool =
    (m : ℕ) → m < n → owner_of plan m ≡ owner_of plan n → (e : ℕ) → IsInPool pool e → ¬ IsInPoolOf plan m e

-- n may have the pool
unfoldable pub IsLawfulPool : Plan → ℕ → Pool → Type 0
IsLawfulPool plan n pool =
    IsBridge plan n × IsPoolInRange pool × LiesInOwnersPool plan n pool × LiesApartFromEarlierPools plan n pool

-- n's pool, if it has one, is such a pool
unfoldable pub HasLawfulPool : Plan → ℕ → Type 0
HasLawfulPool plan n = (pool : Pool) → pool_of plan n ≡ Some pool → IsLawfulPool plan n pool
