use Rattle.std.proofs.Common.{◌≡◌, ℕ, ◌<◌}
use Rattle.net_tables.specs.Ownership.{owner_of, IsInPool, IsInPoolOf}
use Rattle.net_explained.proofs.causes.pools.earlier_meeting.Given as goal

abbrev pub invariant-loop-earlier : goal.invariant-loop-earlier
invariant-loop-earlier l = (k e : ℕ) → k < l.earlier → ¬ ((owner_of l.plan k ≡ owner_of l.plan l.node) × IsInPool l.pool e × IsInPoolOf l.plan k e)
