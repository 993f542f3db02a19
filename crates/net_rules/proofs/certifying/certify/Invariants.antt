use Rattle.net_rules.specs.Certificates.{IsMadeBefore}
use Rattle.net_rules.proofs.certifying.certify.Given as goal

abbrev pub invariant-loop-rule : goal.invariant-loop-rule
invariant-loop-rule l = IsMadeBefore l.plan l.rule-index l.made
