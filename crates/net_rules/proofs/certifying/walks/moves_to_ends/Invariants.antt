use Rattle.net_rules.specs.Circles.{MovesBy, AreKnown, AreMovesToEnds}
use Rattle.net_rules.proofs.certifying.walks.moves_to_ends.Given as goal

abbrev pub invariant-loop-index : goal.invariant-loop-index
invariant-loop-index l = record {
  known : AreKnown (MovesBy l.table) l.known.items;
  counts : AreMovesToEnds (MovesBy l.table) l.index l.counts.items;
}
