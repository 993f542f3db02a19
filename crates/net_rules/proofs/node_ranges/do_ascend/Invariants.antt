use Rattle.std.{proofs.Common.{◌≡◌, ℕ, ◌<◌, ◌≤◌, Some}, specs.Prelude.{slice_get}}
use Rattle.plan_values.specs.declared.certificate.RankRange.{RankRange}
use Rattle.net_tables.specs.Routing.{OfItem}
use Rattle.net_rules.specs.RanksByEid.{range_past}
use Rattle.net_rules.proofs.node_ranges.do_ascend.Given as goal

abbrev pub invariant-loop-range : goal.invariant-loop-range
invariant-loop-range l = record {
  ended : (k : ℕ) → k < l.range-index → OfItem l.ranges k (λ range. range_past range ≤ l.end);
  follow : (i j : ℕ) (one other : RankRange) → i < j → j < l.range-index → slice_get l.ranges i ≡ Some one → slice_get l.ranges j ≡ Some other
      → range_past one ≤ other.first.value;
}
