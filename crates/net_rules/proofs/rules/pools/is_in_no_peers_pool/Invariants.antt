use Rattle.std.proofs.Common.{◌≡◌, ℕ, ◌<◌}
use Rattle.net_tables.{specs.Routing.{IsBridge}, specs.Ownership.{owner_of, IsInPoolOf}}
use Rattle.net_rules.proofs.rules.pools.is_in_no_peers_pool.Given as goal

abbrev pub invariant-loop-peer : goal.invariant-loop-peer
invariant-loop-peer l = (k : ℕ) → k < l.peer → IsBridge l.plan k → owner_of l.plan k ≡ owner_of l.plan l.node → ¬ IsInPoolOf l.plan k l.eid.value
