use Rattle.std.proofs.Common.{◌≡◌, ℕ, ◌<◌}
use Rattle.net_tables.specs.Ownership.{owner_of, IsInPool, IsInPoolOf}
use Rattle.net_rules.proofs.rules.pools.lies_apart_from_earlier_pools.Given as goal

abbrev pub invariant-loop-earlier : goal.invariant-loop-earlier
invariant-loop-earlier l = (k : ℕ) → k < l.earlier → owner_of l.plan k ≡ owner_of l.plan l.node → (e : ℕ) → IsInPool l.pool e → ¬ IsInPoolOf l.plan k e
