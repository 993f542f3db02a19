use Rattle.std.proofs.Common.{◌≡◌, take}
use Rattle.net_rules.proofs.certifying.levels.levels_from.Given as goal

abbrev pub invariant-loop-count : goal.invariant-loop-count
invariant-loop-count l = l.levels.items ≡ take l.count-index l.counts
