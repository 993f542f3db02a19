use Rattle.std.proofs.Common.{◌-◌, length}
use Rattle.net_rules.proofs.ChainPlaces.{AreFromTheEndBelow}
use Rattle.net_rules.proofs.certifying.chains.places_from_the_end.Given as goal

abbrev pub invariant-loop-place : goal.invariant-loop-place
invariant-loop-place l = AreFromTheEndBelow l.records (length l.records - l.place) l.next l.places.items
