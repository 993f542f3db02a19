use Rattle.std.{proofs.Common.{◌≡◌, length, map, ap, sym, ◌∙◌}, proofs.lemmas.List.{length-map}, specs.List.{list_all}}
use Rattle.plan_values.{specs.EventValues.{event_entry, is_known_event}, specs.PlanValues.{node_value, node_names}, proofs.Placed.{list_all_mapped}}
use Rattle.net_plan.{specs.Json.{demand}, specs.declared.error.ValueFault.TheVariants.{UnknownName}}
use Rattle.net_plan.proofs.event_text.check_known.Goals as goal

pub returns : goal.returns
returns c =
    let nodes = c.args.nodes.now in
    let count : length nodes ≡ length (node_names (map node_value nodes)) = sym (length-map (map node_value nodes) (λ n. n.name) ∙ length-map nodes node_value) in
    c.demand.ensures ∙ ap (demand UnknownName) (c.are_known.ensures ∙ sym (list_all_mapped (is_known_event (length nodes)) event_entry c.args.events.now) ∙ ap (λ n. list_all (is_known_event n) (map event_entry c.args.events.now)) count)
