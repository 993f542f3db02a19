-- Why a source gave no events, or no lines.
use Rattle.std.proofs.Common.{refl}
use Rattle.plan_values.{specs.declared.plan.Plan.{Plan}, specs.PlanValues.{plan_value}}
use Rattle.net_plan.{specs.Stream.{HasFailed}, specs.declared.error.PlanError.{PlanError}, specs.TextFaults.{error_count}, specs.Unread.{GaveNoEvents}}
use Rattle.command_answers.{specs.Answers.{Stream}, specs.Statuses.{refused_at}, proofs.Telling.{refusal_at}, specs.Inputs.{AreEventsUnread}}
use Rattle.command_answers.specs.declared.refused.Input.TheVariants as input
use Rattle.net_plan.specs.declared.stream.TextFault.TheVariants as fault

-- of events at the nodes of a plan, so that the refusal has its cause
pub no_events : (e : PlanError) (plan : Plan) (happenings : Stream) → GaveNoEvents (plan_value plan) happenings.before.bytes happenings.after.bytes e
    → HasFailed happenings.before happenings.after (error_count e) → AreEventsUnread (refused_at input.Events e) plan happenings
no_events e plan happenings gave counted =
    refusal_at (λ why. AreEventsUnread why plan happenings) (GaveNoEvents (plan_value plan)) happenings input.Events e gave counted tt
    (λ cause nothing. nothing)
