use Rattle.std.proofs.Common.{◌≡◌, ap, ◌∙◌, map, subst, IfOk}
use Rattle.net_plan.{specs.Trees.{view}, specs.Names.{index_among}, specs.NameIndexes.{find_in}, proofs.BusNames.{node_names_of, events_found}}
use Rattle.plan_values.specs.EventValues.{event_entry}
use Rattle.net_plan.proofs.event_text.make_events.Goals as goal

pub returns-clause-made : goal.returns-clause-made
returns-clause-made c =
    let found = events_found _ (find_in c.in_ok-index.index) (view c.args.value.now) (λ q. c.in_ok-index.ensures.found q ∙ ap (λ ns. index_among ns q) (node_names_of c.args.nodes.now)) in
    subst (λ made. IfOk c.make_within_at.result (λ v. map event_entry v.items ≡ made)) found c.make_within_at.ensures.made
