use Rattle.std.{proofs.Common.{◌≡◌, ◌≢◌, ℕ, ◌<◌, Some}, specs.Prelude.{slice_get}}
use Rattle.plan_values.specs.declared.terminus.PlannedRecord as listed
use Rattle.net_rules.proofs.all_faults.records.is_new_handle.Given as goal

abbrev pub invariant-loop-earlier : goal.invariant-loop-earlier
invariant-loop-earlier l = (i : ℕ) (other : listed.PlannedRecord) → i < l.earlier → slice_get l.records i ≡ Some other → other.handle ≢ l.handle
