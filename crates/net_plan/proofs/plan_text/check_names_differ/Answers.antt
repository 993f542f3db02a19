use Rattle.std.proofs.Common.{ap, ◌∙◌}
use Rattle.net_plan.{specs.Json.{demand}, specs.Names.{names_differ}, specs.declared.error.ValueFault.TheVariants.{Doubled}, proofs.BusNames.{bus_names_of}, proofs.ReadExactly.{read_exactly}}
use Rattle.net_plan.proofs.plan_text.check_names_differ.Goals as goal

pub returns : goal.returns
returns c = read_exactly _ c.demand.result (c.demand.ensures ∙ ap (demand Doubled) (c.in_ok-names_differ.ensures ∙ ap names_differ (bus_names_of c.args.buses.now)))
