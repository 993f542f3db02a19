use Rattle.std.proofs.Common.{◌≡◌, ℕ, ◌+◌, ◌<◌, ◌≤◌, length}
use Rattle.net_rules.{specs.Moves.{Leads}, specs.LongestWays.{MovesByEither}, specs.MixedLoops.{AreWaysBack}}
use Rattle.net_rules.proofs.certifying.mixed_loops.ways_back.Given as goal

abbrev pub invariant-loop-moves : goal.invariant-loop-moves
invariant-loop-moves l = record {
  long : length l.layers.items ≡ l.moves + 1;
  ways : AreWaysBack (MovesByEither l.old l.new) l.start l.layers.items;
  none : (k : ℕ) → 0 < k → k ≤ l.moves → ¬ Leads (MovesByEither l.old l.new) l.start k l.start;
}
