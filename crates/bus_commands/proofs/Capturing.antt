-- What answers `capture` on what was read.
use Rattle.std.{proofs.Common.{◌≡◌, List, Result, Ok, Err, map, subst}, specs.Prelude.{IfOk}}
use Rattle.command_answers.{specs.Answers.{Stream, AreGiven}, specs.Inputs.{GaveEvents}, specs.declared.refused.Refused.{Refused}, specs.declared.bytes_answer.BytesAnswer.{BytesAnswer}}
use Rattle.plan_values.{specs.declared.certificate.Certificate.{Certificate}, specs.declared.event.Event.{Event}, specs.declared.plan.Plan.{Plan}}
use Rattle.net_sim.specs.Outcomes.{event_value}
use Rattle.bus_commands.specs.Capturing.{AnswersCapture, AnswersRun}

pub answers_given : (plan : Plan) (cert : Certificate) (events given : List Event) (plans certificates happenings : Stream) (result : Result BytesAnswer Refused)
    → AreGiven plans certificates plan cert → GaveEvents plan happenings events → given ≡ events
    → IfOk result (λ (a : BytesAnswer). AnswersRun plan cert (map event_value given) a.status a.bytes.items)
    → IfOk result (λ (a : BytesAnswer). AnswersCapture plans certificates happenings a.status a.bytes.items)
answers_given plan cert events given plans certificates happenings (Ok a) read gave same answers =
    (plan, cert, events, read, gave, subst (λ (es : List Event). AnswersRun plan cert (map event_value es) a.status a.bytes.items) same answers)
answers_given plan cert events given plans certificates happenings (Err why) read gave same answers = tt
