use Rattle.std.proofs.Common.{ℕ, ◌-◌, ◌<◌, ◌≤◌}
use Rattle.net_tables.{specs.Routing.{Covers}, specs.Ranks.{Falls}}
use Rattle.net_rules.proofs.rules.ranks.first_without_fall.Given as goal

abbrev pub invariant-loop-start : goal.invariant-loop-start
invariant-loop-start l = record {
  reached : l.row.first.value ≤ l.start;
  falls : (e : ℕ) → e < l.start → Covers l.row e → Falls l.plan l.ranks l.node l.row e;
}

abbrev pub decreases-loop-start : goal.decreases-loop-start
decreases-loop-start l = l.end - l.start
