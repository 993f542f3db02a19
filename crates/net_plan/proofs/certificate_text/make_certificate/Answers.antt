use Rattle.std.proofs.Common.{◌≡◌, IfOk, ap, ◌∙◌, subst}
use Rattle.net_plan.{specs.Trees.{view}, specs.Names.{index_among}, specs.NameIndexes.{find_in}, proofs.BusNames.{node_names_of, certificate_found}}
use Rattle.plan_values.specs.CertificateValues.{certificate_value}
use Rattle.net_plan.proofs.certificate_text.make_certificate.Goals as goal

pub returns : goal.returns
returns c =
    let found = certificate_found _ (find_in c.in_ok-of.field-0) (view c.args.value.now) (λ q. c.in_ok-of.ensures.found q ∙ ap (λ ns. index_among ns q) (node_names_of c.args.nodes.now)) in
    subst (λ made. IfOk c.make_among.result (λ c. certificate_value c ≡ made)) found c.make_among.ensures
