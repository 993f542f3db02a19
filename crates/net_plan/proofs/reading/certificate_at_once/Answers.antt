use Rattle.std.{proofs.Common.{◌≡◌, ◌∙◌, length, map, ap, sym, subst}, proofs.lemmas.List.{length-map}}
use Rattle.plan_values.{specs.CertificateValues.{are_known, certificate_value}, specs.PlanValues.{node_value, node_names, plan_value}}
use Rattle.net_plan.{specs.CertificateText.{IsCertificateOf}, specs.Gathered.{IsPlainText}, specs.Trees.{data_of}, proofs.CertificateLaw.{certificate_tells, read_known}, proofs.Gathered.{if_some, stands_for_plain}}
use Rattle.net_plan.proofs.reading.certificate_at_once.Goals as goal

pub returns-clause-told : goal.returns-clause-told
returns-clause-told c =
    let R = IsCertificateOf (plan_value c.args.plan.now) in
    let is = c.in_ok-short_text.ensures.text in
    if_some c.plain_certificate.result (λ v h. stands_for_plain R c.args.text.now (certificate_value v) is.1 (subst (λ text. IsPlainText R text (certificate_value v)) is.0 h)) c.plain_certificate.ensures

pub returns-clause-known : goal.returns-clause-known
returns-clause-known c =
    let nodes = c.args.plan.now.nodes.items in
    let plan = plan_value c.args.plan.now in
    let count : length nodes ≡ length (node_names (map node_value nodes)) = sym (length-map (map node_value nodes) (λ n. n.name) ∙ length-map nodes node_value) in
    if_some c.plain_certificate.result (λ v h. ap (λ n. are_known n (certificate_value v)) count ∙ read_known (node_names plan.nodes) (data_of h.0) (certificate_value v) ((certificate_tells plan).whole (data_of h.0) (certificate_value v) h.3)) c.plain_certificate.ensures

pub returns-clause-within : goal.returns-clause-within
returns-clause-within c = if_some c.plain_certificate.result (λ v h. c.in_ok-short_text.ensures.within) c.plain_certificate.ensures
