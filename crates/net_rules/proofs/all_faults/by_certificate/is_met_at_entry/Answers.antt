use Rattle.std.{proofs.Common.{Some, None, sym, subst}, specs.Prelude.{IsTrue, ◌↔◌}}
use Rattle.plan_values.specs.declared.certificate.Certificate.{Certificate}
use Rattle.net_rules.{specs.declared.rule.Rule.{Rule}, specs.Rules.{CertificateDemands}}
use Rattle.net_tables.{specs.Routing.{OfItem}, specs.Repositories.{records_of, places_of, IsChained}}
use Rattle.net_rules.proofs.all_faults.by_certificate.is_met_at_entry.Goals as goal

pub returns-in-C14 : goal.returns-in-C14
returns-in-C14 c =
    let plan = c.args.plan.now in
    let n = c.args.node in
    let D : Rule → Type 0 = λ rule. IsTrue c.is_record_chained.result ↔ CertificateDemands plan c.args.ranks.now rule n (Some c.args.entry) None in
    let C : Certificate → Type 0 = λ cert. IsTrue c.is_record_chained.result ↔ OfItem (records_of plan n) c.args.entry (IsChained (records_of plan n) (places_of cert n) c.args.entry) in
    subst D (sym c.in-C14.is) (subst C c.certificate.ensures c.is_record_chained.ensures)
