use Rattle.std.proofs.Common.{sym, subst, Some, inl, inr}
use Rattle.net_rules.{specs.declared.rule.Rule.{Rule}, specs.Rules.{PlanDemands, CertificateDemands}}
use Rattle.net_rules.proofs.all_faults.bounds.eids_of_entry.Goals as goal

pub returns-in-C10-clause-plan : goal.returns-in-C10-clause-plan
returns-in-C10-clause-plan c = λ e out.
    let D : Rule → Type 0 = λ rule. PlanDemands c.args.plan.now rule c.args.node (Some c.args.entry) (Some e) in
    elim c.in-C10.is [
      | inl is ↦ subst D (sym is) tt
      | inr is ↦ subst D (sym is) (λ row at covers. absurd (c.covered_by.ensures e out row at covers))
    ]

pub returns-in-C10-clause-certificate : goal.returns-in-C10-clause-certificate
returns-in-C10-clause-certificate c = λ cert e out.
    let D : Rule → Type 0 = λ rule. CertificateDemands c.args.plan.now cert rule c.args.node (Some c.args.entry) (Some e) in
    elim c.in-C10.is [
      | inl is ↦ subst D (sym is) (λ row at covers. absurd (c.covered_by.ensures e out row at covers))
      | inr is ↦ subst D (sym is) tt
    ]
