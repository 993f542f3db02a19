use Rattle.std.proofs.Common.{◌-◌, ◌≤◌}
use Rattle.net_rules.proofs.MoveRankLaws.{AreMixedBelow}
use Rattle.net_rules.proofs.certifying.exact_move_ranks.exact_move_ranks.Given as goal

abbrev pub invariant-loop-first : goal.invariant-loop-first
invariant-loop-first l = record {
  within : l.first ≤ 255;
  mixed : AreMixedBelow l.before l.after l.first l.given.items;
}

abbrev pub decreases-loop-first : goal.decreases-loop-first
decreases-loop-first l = 255 - l.first
