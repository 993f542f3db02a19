use Rattle.std.proofs.Common.{◌≡◌, ℕ, ◌<◌}
use Rattle.net_explained.specs.Causes.{HasRecordThat}
use Rattle.net_explained.proofs.causes.records.first_of_handle.Given as goal

abbrev pub invariant-loop-earlier : goal.invariant-loop-earlier
invariant-loop-earlier l = (k : ℕ) → k < l.earlier → ¬ HasRecordThat l.plan l.node k (λ r. r.handle ≡ l.handle)
