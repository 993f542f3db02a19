use Rattle.std.proofs.Common.{◌≡◌, length}
use Rattle.net_rules.specs.LongestWays.{AreLongestWithin, HasWayOf, MovesByEither}
use Rattle.net_rules.proofs.certifying.longest_ways.longest_ways.Given as goal

abbrev pub invariant-loop-most : goal.invariant-loop-most
invariant-loop-most l = record {
  long : length l.counts.items ≡ length l.old;
  within : AreLongestWithin (MovesByEither l.old l.new) l.most l.counts.items;
  way : HasWayOf (MovesByEither l.old l.new) l.most;
}
