use Rattle.std.proofs.Common.{ℕ, ◌<◌, ◌≤◌, ◌-◌}
use Rattle.net_rules.proofs.stretches.first_broken.Given as goal

abbrev pub invariant-loop-start : goal.invariant-loop-start
invariant-loop-start g l = record {
  reached : l.first ≤ l.start;
  met : (d : ℕ) → l.first ≤ d → d < l.start → g.D.Stretched.Demand l.demand d;
}

abbrev pub decreases-loop-start : goal.decreases-loop-start
decreases-loop-start g l = l.end - l.start
