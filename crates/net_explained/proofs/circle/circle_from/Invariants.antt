use Rattle.std.proofs.Common.{◌-◌, ◌+◌, length}
use Rattle.net_rules.{specs.Circles.{MovesBy}, proofs.Circling.{IsUnderWay}}
use Rattle.net_explained.specs.Followers.{followers}
use Rattle.net_explained.proofs.circle.circle_from.Given as goal

abbrev pub invariant-loop-next : goal.invariant-loop-next
invariant-loop-next l = IsUnderWay (MovesBy (followers l.records)) l.first l.at l.circle.items

abbrev pub decreases-loop-next : goal.decreases-loop-next
decreases-loop-next l = length l.records + 1 - length l.circle.items
