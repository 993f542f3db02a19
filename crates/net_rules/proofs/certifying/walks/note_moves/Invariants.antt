use Rattle.std.proofs.Common.{◌≡◌, length}
use Rattle.net_rules.specs.Circles.{MovesBy, AreKnown, EndsAfter}
use Rattle.net_rules.proofs.certifying.walks.note_moves.Given as goal

abbrev pub invariant-loop-known : goal.invariant-loop-known
invariant-loop-known l = record {
  long : length l.known ≡ length l.fn.known;
  known : AreKnown (MovesBy l.table) l.known;
  ends : EndsAfter (MovesBy l.table) l.at l.left;
}

abbrev pub decreases-loop-known : goal.decreases-loop-known
decreases-loop-known l = l.left
