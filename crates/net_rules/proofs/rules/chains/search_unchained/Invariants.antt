use Rattle.std.proofs.Common.{ℕ, ◌<◌}
use Rattle.net_tables.{specs.Routing.{OfItem}, specs.Repositories.{IsChained}}
use Rattle.net_rules.proofs.Handles.{HasBefore, values}
use Rattle.net_rules.proofs.rules.chains.search_unchained.Given as goal

abbrev pub invariant-loop-j : goal.invariant-loop-j
invariant-loop-j l = record {
  earlier : (k : ℕ) → k < l.j → OfItem l.records k (IsChained l.records (values l.places) k);
  has : HasBefore (values l.places) l.j l.taken;
}
