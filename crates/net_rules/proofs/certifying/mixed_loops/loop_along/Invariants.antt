use Rattle.std.proofs.Common.{◌-◌, length}
use Rattle.net_rules.{specs.Circles.{MovesBy}, proofs.LoopLaws.{IsOnTheWay}}
use Rattle.net_rules.proofs.certifying.mixed_loops.loop_along.Given as goal

abbrev pub invariant-loop-left : goal.invariant-loop-left
invariant-loop-left l = IsOnTheWay (MovesBy l.old) (MovesBy l.new) l.start (length l.layers - 1) l.at l.left l.nodes.items l.sides.items

abbrev pub decreases-loop-left : goal.decreases-loop-left
decreases-loop-left l = l.left
