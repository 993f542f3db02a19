use Rattle.std.{proofs.Common.{◌≡◌, ℕ, ◌<◌, Some, map}, specs.Prelude.{slice_get}}
use Rattle.plan_values.specs.declared.terminus.PlannedRecord as listed
use Rattle.net_rules.proofs.all_faults.records.has_handle_at.Given as goal

abbrev pub invariant-loop-index : goal.invariant-loop-index
invariant-loop-index l = (k : ℕ) → k < l.index
    → ¬ ((r : listed.PlannedRecord) × (slice_get l.records k ≡ Some r) × (slice_get (map (λ p. p.value) l.places) k ≡ Some l.place) × (l.handle ≡ r.handle))
