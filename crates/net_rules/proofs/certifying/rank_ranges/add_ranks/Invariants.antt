use Rattle.std.{proofs.Common.{◌≡◌, ℕ, ◌<◌, ◌≤◌, length, Some}, specs.Prelude.{slice_get}}
use Rattle.plan_values.specs.declared.certificate.NodeRanks.{NodeRanks}
use Rattle.net_rules.specs.RankRuns.{IsGrown}
use Rattle.net_rules.proofs.certifying.rank_ranges.add_ranks.Given as goal

abbrev pub invariant-loop-node : goal.invariant-loop-node
invariant-loop-node l = record {
  long : length l.given ≡ length l.initial.given;
  grown : (n rank : ℕ) (one other : NodeRanks) → n < l.node → slice_get l.ranks n ≡ Some rank → slice_get l.initial.given n ≡ Some one → slice_get l.given n ≡ Some other → IsGrown l.stretch.first.value l.stretch.last.value rank one other;
  same : (n : ℕ) → l.node ≤ n → slice_get l.given n ≡ slice_get l.initial.given n;
}
