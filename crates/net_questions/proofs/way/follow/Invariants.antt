use Rattle.std.proofs.Common.{◌-◌, length}
use Rattle.net_tables.specs.Ranks.{rank}
use Rattle.net_questions.specs.Ways.{Follows}
use Rattle.net_questions.proofs.way.follow.Given as goal

abbrev pub invariant-loop-hop : goal.invariant-loop-hop
invariant-loop-hop l = Follows l.checked.0 l.eid.value 0 l.from l.steps.items l.last

abbrev pub decreases-loop-hop : goal.decreases-loop-hop
decreases-loop-hop l = rank l.checked.1 l.from l.eid.value - length l.steps.items
