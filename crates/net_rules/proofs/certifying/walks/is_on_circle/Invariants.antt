use Rattle.net_rules.{specs.Moves.{Leads}, specs.Circles.{MovesBy}, proofs.Circling.{NotBackWithin}}
use Rattle.net_rules.proofs.certifying.walks.is_on_circle.Given as goal

abbrev pub invariant-loop-count : goal.invariant-loop-count
invariant-loop-count l = record {
  way : Leads (MovesBy l.table) l.start l._count l.at;
  none : NotBackWithin (MovesBy l.table) l.start l._count;
}
