use Rattle.std.{proofs.Common.{◌≢◌, ℕ, ◌<◌, Some}, specs.Prelude.{slice_get}}
use Rattle.net_rules.proofs.certifying.longest_ways.has_count.Given as goal

abbrev pub invariant-loop-index : goal.invariant-loop-index
invariant-loop-index l = (n : ℕ) → n < l.index → slice_get l.counts n ≢ Some l.count
