use Rattle.std.{proofs.Common.{rules, ◌≡◌, ◌∙◌, map, Err, inr, refl, ap}, specs.Cow.{cow_str_bytes}}
use Rattle.net_tables.specs.TwoPlans.{moving}
use Rattle.plan_values.{specs.declared.certificate.Certificate.{Certificate}, specs.declared.plan.Plan.{Plan}}
use Rattle.net_sim.specs.Outcomes.{event_value}
use Rattle.command_answers.{specs.Answers.{stream}, specs.Moves.{IsMoveFaultText}}
use Rattle.play_commands.{specs.MoveSimulating.{MovesOn, IsMovePlayText}, proofs.Playing.{plays_fault, plays_nothing, plays_in}}
use Rattle.command_answers.specs.declared.refused.Refused.TheVariants as refused
use Rattle.play_commands.proofs.sim.moves.play_move.Goals as goal

pub returns-in-Ok : goal.returns-in-Ok
returns-in-Ok g c =
    let before = c.args.before.now in
    let after = c.args.after.now in
    plays_in (moving before after) c.args.certificate.now c.of_move.result (map event_value c.args.events.now) (IsMoveFaultText before after c.args.certificate.now) _ _
    c.play_planned.result (c.of_move.ensures ∙ ap (λ (k : Plan × Plan × Certificate). (moving k.0 k.1, k.2)) c.in-Ok.ensures.checked) c.play_planned.ensures

pub returns-in_err-move_fault_answer-in-Err : goal.returns-in_err-move_fault_answer-in-Err
returns-in_err-move_fault_answer-in-Err g c =
    let before = c.args.before.now in
    let after = c.args.after.now in
    let cert = c.args.certificate.now in
    let events = map event_value c.args.events.now in
    let output = stream g.O.Sink.account c.args.output.now c.args.output.now in
    let ended : c.from_residual.result ≡ Err refused.NoMemory = search rules in
    rw ended (plays_nothing (MovesOn before after cert events) (IsMoveFaultText before after cert) (IsMovePlayText before after cert events) (λ why. ⊥) _ output _ refl refl)

pub returns-in_ok-move_fault_answer-in-Err : goal.returns-in_ok-move_fault_answer-in-Err
returns-in_ok-move_fault_answer-in-Err g c =
    let before = c.args.before.now in
    let after = c.args.after.now in
    let cert = c.args.certificate.now in
    let events = map event_value c.args.events.now in
    let answer = c.in_ok-move_fault_answer-in-Err in
    let text = cow_str_bytes answer.field-0.text in
    let output = stream g.O.Sink.account c.args.output.now c.give.new.output in
    let told : IsMoveFaultText before after cert text = (c.in-Err.error, c.in-Err.ensures.first_fault, answer.ensures.1) in
    plays_fault (MovesOn before after cert events) (IsMoveFaultText before after cert) (IsMovePlayText before after cert events) (λ why. ⊥) _ output text
    answer.field-0.status c.give.result answer.ensures.0 told (inr told) c.give.ensures.given c.give.ensures.broken
