use Rattle.std.proofs.Common.{ℕ, ◌<◌}
use Rattle.net_tables.{specs.Routing.{OfItem}, specs.Repositories.{IsChained}}
use Rattle.net_rules.proofs.Handles.{values}
use Rattle.net_rules.proofs.rules.chains.all_lead_on.Given as goal

abbrev pub invariant-loop-j : goal.invariant-loop-j
invariant-loop-j l = (k : ℕ) → k < l.j → OfItem l.records k (IsChained l.records (values l.places) k)
