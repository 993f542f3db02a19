use Rattle.std.proofs.Common.{◌≡◌, nat_lt, sym, ap, ◌∙◌}
use Rattle.plan_values.{specs.CertificateValues.{are_known, level_value, places_value, node_ranks_value, certificate_value}, proofs.Placed.{list_all_mapped}}
use Rattle.net_plan.{specs.Json.{demand}, specs.declared.error.ValueFault.TheVariants.{UnknownName}}
use Rattle.net_plan.proofs.certificate_text.check_known.Goals as goal

pub returns : goal.returns
returns c =
    let nodes = c.args.nodes in
    let certificate = c.args.certificate.now in
    let seen : are_known nodes (certificate_value certificate) ≡ c.are_known.result = rw (list_all_mapped (λ l. nat_lt l.node nodes) level_value certificate.levels.items, list_all_mapped (λ p. nat_lt p.node nodes) places_value certificate.places.items, list_all_mapped (λ r. nat_lt r.node nodes) node_ranks_value certificate.ranks.items) (sym c.are_known.ensures) in
    c.demand.ensures ∙ ap (demand UnknownName) (sym seen)
