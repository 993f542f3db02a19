use Rattle.std.proofs.Common.{◌-◌, ◌+◌, length}
use Rattle.net_rules.{specs.Circles.{MovesBy}, proofs.Circling.{IsUnderWay}}
use Rattle.net_rules.proofs.certifying.walks.loop_from.Given as goal

abbrev pub invariant-loop-next : goal.invariant-loop-next
invariant-loop-next l = IsUnderWay (MovesBy l.table) l.start l.at l.places.items

abbrev pub decreases-loop-next : goal.decreases-loop-next
decreases-loop-next l = length l.table + 1 - length l.places.items
