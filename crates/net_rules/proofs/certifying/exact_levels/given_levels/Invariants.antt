use Rattle.net_rules.specs.Certificates.{AreLevelsBefore}
use Rattle.net_rules.proofs.certifying.exact_levels.given_levels.Given as goal

abbrev pub invariant-loop-node : goal.invariant-loop-node
invariant-loop-node l = AreLevelsBefore l.levels l.node l.given.items
