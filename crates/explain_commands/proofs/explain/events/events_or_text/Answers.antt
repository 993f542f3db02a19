use Rattle.net_plan.{specs.EventReading.{events}, specs.EventText.{AreEventsOf}}
use Rattle.plan_values.specs.PlanValues.{plan_value, node_names}
use Rattle.net_pointers.specs.Asks.{events_text}
use Rattle.command_answers.proofs.UnreadInputs.{unread_by}
use Rattle.explain_commands.proofs.explain.events.events_or_text.Goals as goal

pub returns-in-Ok-clause-unread : goal.returns-in-Ok-clause-unread
returns-in-Ok-clause-unread g c =
    let read = c.in-Ok.ensures in
    let p = plan_value c.args.plan.now in
    unread_by (events_text (node_names p.nodes)) (events (node_names p.nodes)) (AreEventsOf p) _ c.in-Ok.text.items c.events_in.result read.all read.end read.within c.events_in.ensures.unread
