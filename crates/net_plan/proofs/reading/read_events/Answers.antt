use Rattle.net_plan.{specs.EventReading.{events}, specs.EventText.{AreEventsOf}, proofs.Refusing.{answer_given}}
use Rattle.plan_values.specs.PlanValues.{node_names, plan_value}
use Rattle.net_plan.proofs.reading.read_events.Goals as goal

pub returns-clause-refused : goal.returns-clause-refused
returns-clause-refused g c =
    let plan = plan_value c.args.plan.now in
    answer_given (events (node_names plan.nodes)) (AreEventsOf plan) _ _ c.in_ok-text.text.items c.as_slice.result.now c.events_of_text.result c.in_ok-text.ensures.all c.in_ok-text.ensures.end c.in_ok-text.ensures.within c.as_slice.ensures.value c.events_of_text.ensures.refused
