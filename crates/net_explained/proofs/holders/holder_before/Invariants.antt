use Rattle.std.proofs.Common.{ℕ, ◌<◌}
use Rattle.net_tables.specs.Routing.{Holds}
use Rattle.net_explained.proofs.holders.holder_before.Given as goal

abbrev pub invariant-loop-node : goal.invariant-loop-node
invariant-loop-node l = (k : ℕ) → k < l.node → ¬ Holds l.plan k l.eid.value
