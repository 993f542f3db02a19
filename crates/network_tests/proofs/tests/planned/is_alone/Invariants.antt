-- No node that was passed has a terminus, but for this one.
use Rattle.std.proofs.Common.{◌≡◌, ◌≢◌, ◌<◌, ℕ, None}
use Rattle.net_tables.specs.Repositories.{terminus_of}
use Rattle.network_tests.proofs.tests.planned.is_alone.Given as goal

abbrev pub invariant-loop-other : goal.invariant-loop-other
invariant-loop-other l = (m : ℕ) → m < l.other → m ≢ l.index → terminus_of l.plan m ≡ None
