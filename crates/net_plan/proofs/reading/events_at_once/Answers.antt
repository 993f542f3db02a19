use Rattle.std.{proofs.Common.{◌≡◌, ◌≤◌, ◌∙◌, length, map, ap, sym, subst}, proofs.lemmas.List.{length-map}, specs.List.{list_all}}
use Rattle.net_plan.{specs.EventText.{AreEventsOf}, specs.Gathered.{IsPlainText}, specs.Trees.{data_of}, proofs.EventLaw.{events_tells, events_known}, proofs.Gathered.{if_some, stands_for_plain}}
use Rattle.plan_values.{specs.EventValues.{event_entry, is_known_event}, specs.PlanValues.{node_value, node_names, plan_value}}
use Rattle.net_plan.proofs.reading.events_at_once.Goals as goal

pub returns-clause-told : goal.returns-clause-told
returns-clause-told c =
    let R = AreEventsOf (plan_value c.args.plan.now) in
    let is = c.in_ok-short_text.ensures.text in
    if_some c.plain_events.result (λ v h. stands_for_plain R c.args.text.now (map event_entry v.items) is.1 (subst (λ text. IsPlainText R text (map event_entry v.items)) is.0 h)) c.plain_events.ensures

pub returns-clause-known : goal.returns-clause-known
returns-clause-known c =
    let nodes = c.args.plan.now.nodes.items in
    let plan = plan_value c.args.plan.now in
    let count : length nodes ≡ length (node_names (map node_value nodes)) = sym (length-map (map node_value nodes) (λ n. n.name) ∙ length-map nodes node_value) in
    if_some c.plain_events.result (λ v h.
    let es = map event_entry v.items in
    ap (λ n. list_all (is_known_event n) es) count ∙ events_known (node_names plan.nodes) (data_of h.0) es ((events_tells plan).whole (data_of h.0) es h.3)) c.plain_events.ensures

pub returns-clause-within : goal.returns-clause-within
returns-clause-within c = if_some c.plain_events.result (λ v h. subst (λ n. n ≤ 100000) (length-map v.items event_entry ∙ sym v.ok.0) h.3.events.2.1) c.plain_events.ensures

pub returns-clause-short : goal.returns-clause-short
returns-clause-short c = if_some c.plain_events.result (λ v h. c.in_ok-short_text.ensures.within) c.plain_events.ensures
