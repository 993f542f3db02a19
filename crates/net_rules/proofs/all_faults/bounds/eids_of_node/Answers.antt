use Rattle.std.proofs.Common.{sym, subst, arith, Some, None, inl, inr}
use Rattle.net_rules.{specs.declared.rule.Rule.{Rule}, specs.Rules.{CertificateDemands}, specs.Superfluous.{NeedsItsRank}}
use Rattle.net_rules.proofs.all_faults.bounds.eids_of_node.Goals as goal

pub returns-in-C16-clause-certificate : goal.returns-in-C16-clause-certificate
unfolding NeedsItsRank
returns-in-C16-clause-certificate c = λ cert e out.
    let D : Rule → Type 0 = λ rule. CertificateDemands c.args.plan.now cert rule c.args.node None (Some e) in
    subst D (sym c.in-C16.is) (λ within low. absurd (elim out [ inl less ↦ omega (arith, less, c.all.ensures.first) | inr past ↦ omega (arith, past, low, c.all.ensures.end) ]))
