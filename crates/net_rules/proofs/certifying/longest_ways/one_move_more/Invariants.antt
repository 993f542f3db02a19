use Rattle.net_rules.proofs.WayLaws.{AreOneMore}
use Rattle.net_rules.proofs.certifying.longest_ways.one_move_more.Given as goal

abbrev pub invariant-loop-index : goal.invariant-loop-index
invariant-loop-index l = AreOneMore l.old l.new l.counts l.index l.more.items
