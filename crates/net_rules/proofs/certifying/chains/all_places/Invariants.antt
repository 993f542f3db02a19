use Rattle.net_rules.proofs.ChainPlaces.{AreAllSoFar}
use Rattle.net_rules.proofs.certifying.chains.all_places.Given as goal

abbrev pub invariant-loop-record : goal.invariant-loop-record
invariant-loop-record l = AreAllSoFar l.places l.record l.all.items
