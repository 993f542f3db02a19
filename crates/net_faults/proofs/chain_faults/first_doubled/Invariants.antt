use Rattle.std.proofs.Common.{ℕ, ◌<◌}
use Rattle.net_tables.specs.Routing.{OfItem}
use Rattle.net_rules.specs.RecordChains.{HasNewNext}
use Rattle.net_faults.proofs.chain_faults.first_doubled.Given as goal

abbrev pub invariant-loop-j : goal.invariant-loop-j
invariant-loop-j l = (k : ℕ) → k < l.j → OfItem l.records k (HasNewNext l.records k)
