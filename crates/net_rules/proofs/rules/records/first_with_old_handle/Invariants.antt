use Rattle.std.proofs.Common.{ℕ, ◌<◌}
use Rattle.net_tables.{specs.Routing.{OfItem}, specs.Repositories.{HasNewHandle}}
use Rattle.net_rules.proofs.Handles.{HasBefore, handles_of}
use Rattle.net_rules.proofs.rules.records.first_with_old_handle.Given as goal

abbrev pub invariant-loop-j : goal.invariant-loop-j
invariant-loop-j l = record {
  earlier : (k : ℕ) → k < l.j → OfItem l.records k (HasNewHandle l.records k);
  has : HasBefore (handles_of l.records) l.j l.handles;
}
