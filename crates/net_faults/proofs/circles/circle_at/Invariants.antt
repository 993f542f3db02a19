use Rattle.std.proofs.Common.{◌≡◌, ◌+◌, length}
use Rattle.net_rules.{specs.Circles.{MovesBy}, proofs.Circling.{IsUnderWay}}
use Rattle.net_faults.proofs.CircleLaws.{all_above}
use Rattle.net_faults.proofs.circles.circle_at.Given as goal

abbrev pub invariant-loop-count : goal.invariant-loop-count
invariant-loop-count l = record {
  under : IsUnderWay (MovesBy l.table) l.first l.at l.places.items;
  above : all_above l.first l.places.items;
  long : length l.places.items ≡ l._count + 1;
}
