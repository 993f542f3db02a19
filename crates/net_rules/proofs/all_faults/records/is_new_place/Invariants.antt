use Rattle.std.{proofs.Common.{◌≢◌, ℕ, ◌<◌, Some, map}, specs.Prelude.{slice_get}}
use Rattle.net_rules.proofs.all_faults.records.is_new_place.Given as goal

abbrev pub invariant-loop-earlier : goal.invariant-loop-earlier
invariant-loop-earlier l = (i : ℕ) → i < l.earlier → slice_get (map (λ p. p.value) l.places) i ≢ Some l.place
