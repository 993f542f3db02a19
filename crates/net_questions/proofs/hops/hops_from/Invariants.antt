use Rattle.std.proofs.Common.{◌-◌, length}
use Rattle.net_rules.{specs.Moves.{Leads}, specs.Circles.{MovesBy}}
use Rattle.net_questions.proofs.hops.hops_from.Given as goal

abbrev pub invariant-loop-next : goal.invariant-loop-next
invariant-loop-next l = Leads (MovesBy l.nexts) l.from l.moves l.at

abbrev pub decreases-loop-next : goal.decreases-loop-next
decreases-loop-next l = length l.nexts - l.moves
