use Rattle.std.{proofs.Common.{rules, ◌≡◌, ◌∙◌, List, ℕ, map, Err, inr, refl, ap}, specs.Cow.{cow_str_bytes}}
use Rattle.net_check.{specs.declared.check_error.CheckError.{CheckError}, specs.Errors.{NamesFirstFault}}
use Rattle.net_tables.specs.TwoPlans.{one_plan}
use Rattle.plan_values.{specs.declared.certificate.Certificate.{Certificate}, specs.declared.plan.Plan.{Plan}}
use Rattle.net_sim.specs.Outcomes.{event_value}
use Rattle.command_answers.specs.Answers.{stream, IsErrorText, IsFaultText}
use Rattle.play_commands.{specs.Simulating.{RunsOn, IsPlayText}, proofs.Playing.{plays_fault, plays_nothing, plays_in}}
use Rattle.net_check.specs.declared.check_error.CheckError.TheVariants as check_error
use Rattle.play_commands.proofs.sim.files.play.Goals as goal

-- the line of an error of `check` is that of the first fault
fault_text_of : (plan : Plan) (cert : Certificate) (error : CheckError) (text : List ℕ) → NamesFirstFault plan cert error → IsErrorText plan error text → IsFaultText plan cert text
fault_text_of plan cert (check_error.Fault fault) text first is = (fault, first, is)
fault_text_of plan cert check_error.OutOfMemory text first is = absurd is

pub returns-in-Ok : goal.returns-in-Ok
returns-in-Ok g c =
    plays_in (one_plan c.args.plan.now) c.args.certificate.now c.of_plan.result (map event_value c.args.events.now) (IsFaultText c.args.plan.now c.args.certificate.now) _ _
    c.play_planned.result (c.of_plan.ensures ∙ ap (λ (k : Plan × Certificate). (one_plan k.0, k.1)) c.in-Ok.ensures.checked) c.play_planned.ensures

pub returns-in_err-fault_answer-in-Err : goal.returns-in_err-fault_answer-in-Err
returns-in_err-fault_answer-in-Err g c =
    let plan = c.args.plan.now in
    let cert = c.args.certificate.now in
    let events = map event_value c.args.events.now in
    let failed = c.in_err-fault_answer-in-Err in
    let output = stream g.O.Sink.account c.args.output.now c.args.output.now in
    let ended : c.from_residual.result ≡ Err failed.field-0.0 = search rules in
    rw ended (plays_nothing (RunsOn plan cert events) (IsFaultText plan cert) (IsPlayText plan cert events) (λ why. ⊥) _ output failed.field-0.0 failed.ensures.refused refl)

pub returns-in_ok-fault_answer-in-Err : goal.returns-in_ok-fault_answer-in-Err
returns-in_ok-fault_answer-in-Err g c =
    let plan = c.args.plan.now in
    let cert = c.args.certificate.now in
    let events = map event_value c.args.events.now in
    let answer = c.in_ok-fault_answer-in-Err in
    let text = cow_str_bytes answer.field-0.text in
    let output = stream g.O.Sink.account c.args.output.now c.give.new.output in
    let told = fault_text_of plan cert c.in-Err.error text c.in-Err.ensures.first_fault answer.ensures.answers.1 in
    plays_fault (RunsOn plan cert events) (IsFaultText plan cert) (IsPlayText plan cert events) (λ why. ⊥) _ output text answer.field-0.status c.give.result
    answer.ensures.answers.0 told (inr told) c.give.ensures.given c.give.ensures.broken
