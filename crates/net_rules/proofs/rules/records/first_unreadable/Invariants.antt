use Rattle.std.proofs.Common.{ℕ, ◌<◌}
use Rattle.pdr_repository.specs.Records.{IsRecordOf}
use Rattle.net_tables.specs.Routing.{OfItem}
use Rattle.net_rules.proofs.rules.records.first_unreadable.Given as goal

abbrev pub invariant-loop-j : goal.invariant-loop-j
invariant-loop-j l = (k : ℕ) → k < l.j → OfItem l.records k (λ r. IsRecordOf r.handle r.bytes.items)
