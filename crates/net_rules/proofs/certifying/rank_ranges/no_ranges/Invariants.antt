use Rattle.net_rules.specs.RankRuns.{AreNone}
use Rattle.net_rules.proofs.certifying.rank_ranges.no_ranges.Given as goal

abbrev pub invariant-loop-node : goal.invariant-loop-node
invariant-loop-node l = AreNone l.node l.given.items
