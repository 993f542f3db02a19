use Rattle.std.proofs.Common.{ap, sym, ◌∙◌}
use Rattle.net_plan.{specs.CertificateReading.{ascends}, specs.Json.{demand}, specs.declared.error.ValueFault.TheVariants.{Doubled}}
use Rattle.plan_values.{specs.CertificateValues.{node_ranks_value}, proofs.Placed.{list_all_mapped}}
use Rattle.net_plan.proofs.certificate_text.check_ascending.Goals as goal

pub returns : goal.returns
returns c = c.demand.ensures ∙ ap (demand Doubled) (c.are_ascending.ensures ∙ sym (list_all_mapped (λ r. ascends 0 r.ranges) node_ranks_value c.args.ranks.now))
