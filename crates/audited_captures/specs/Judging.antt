-- How the code judges the way of a packet.
use Rattle.std.specs.Prelude.{ℕ, List, Option, Some, None, if◌then◌else◌}
use Rattle.plan_values.specs.declared.plan.Plan.{Plan}
use Rattle.net_questions.{specs.declared.step.WayStep.{WayStep}, specs.declared.way.End.{End}}
use Rattle.audited_captures.specs.declared.traffic.Unplanned.{Unplanned}
use Rattle.net_questions.specs.declared.way.End.TheVariants as end
use Rattle.audited_captures.specs.Traffic as traffic
use Rattle.audited_captures.specs.declared.traffic.Unplanned.TheVariants as unplanned

-- why packets aren't planned, wherever the steps lie
abbrev pub unplanned_value : Unplanned → traffic.Unplanned
unplanned_value unplanned.NoSender = traffic.NoSender
unplanned_value unplanned.NoReceiver = traffic.NoReceiver
unplanned_value unplanned.Nobody = traffic.Nobody
unplanned_value unplanned.NoWay = traffic.NoWay
unplanned_value (unplanned.Elsewhere steps) = traffic.Elsewhere steps.items

-- why a way of these steps that ends so isn't planned
abbrev pub why_by : Plan → Option ℕ → List WayStep → End → Option traffic.Unplanned
why_by plan bus steps end.Arrives =
    if traffic.is_one_over plan bus steps then None else Some (traffic.Elsewhere steps)
why_by plan bus steps (end.Stops why) = Some traffic.NoWay
