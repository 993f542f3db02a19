use Rattle.std.proofs.Common.{◌≡◌, ◌⊎◌, ◌↔◌, ℕ, ◌<◌, ◌≤◌, false, true, slice_index_or}
use Rattle.mctp_control.proofs.eid_pool.EidPool.mark.Given as goal

abbrev pub invariant-loop-eid : goal.invariant-loop-eid
invariant-loop-eid l = record {
  same : l.self.range ≡ l.fn.self.range;
  marked : (e : ℕ) → (slice_index_or l.self.out e false ≡ true) ↔ ((slice_index_or l.fn.self.out e false ≡ true) ⊎ ((l.fn.first.value ≤ e) × (e < l.eid)));
}
