use Rattle.std.{proofs.Common.{◌≡◌, ◌∙◌, Some, true, rules}, specs.List.{list_all}}
use Rattle.plan_values.{specs.EventValues.{event_entry}, proofs.Placed.{list_all_mapped}}
use Rattle.net_plan.{specs.PlainEvents.{is_event_in}, proofs.PlainEvents.{events_of}}
use Rattle.net_plan.proofs.plain_events.EventsParts.events.Goals as goal

pub returns : goal.returns
returns c =
    let f = c.in_ok-format.format in
    let v = c.in_ok-events.events in
    let has : list_all (λ e. is_event_in f (event_entry e)) v.items ≡ true = search rules in
    events_of c.args.self f v (search rules) (search rules) (list_all_mapped (is_event_in f) event_entry v.items ∙ has)
