use Rattle.net_rules.{specs.Moves.{Leads}, specs.Circles.{MovesBy}}
use Rattle.net_rules.proofs.certifying.walks.moves_to_end.Given as goal

abbrev pub invariant-loop-count : goal.invariant-loop-count
invariant-loop-count l = Leads (MovesBy l.table) l.start l.count l.at
