use Rattle.net_rules.specs.Certificates.{ArePlacesBefore}
use Rattle.net_rules.proofs.certifying.exact_places.exact_places.Given as goal

abbrev pub invariant-loop-node : goal.invariant-loop-node
invariant-loop-node l = ArePlacesBefore l.plan l.node l.given.items
