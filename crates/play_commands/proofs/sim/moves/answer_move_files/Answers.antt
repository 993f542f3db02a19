use Rattle.std.proofs.Common.{rules, ◌≡◌, List, map, Err, refl, subst}
use Rattle.plan_values.specs.declared.event.Event.{Event}
use Rattle.net_sim.specs.Outcomes.{event_value}
use Rattle.command_answers.{specs.Answers.{stream}, specs.Moves.{IsMoveFaultText}}
use Rattle.play_commands.{specs.MoveSimulating.{MovesOn, IsMovePlayText, TellsMovedRun, IsPlayFault, IsPlayAnswer, IsPlayUnread}, specs.Simulating.{PlaysSo}, proofs.Playing.{plays_unread, plays_also}, proofs.UnreadInPlay.{move_unread_written}}
use Rattle.play_commands.proofs.sim.moves.answer_move_files.Goals as goal

pub returns-in_err-before-clause-plays : goal.returns-in_err-before-clause-plays
returns-in_err-before-clause-plays g c =
    let failed = c.in_err-before in
    let befores = stream g.P.Source.account c.args.before.now c.read_move_files.new.before in
    let afters = stream g.Q.Source.account c.args.after.now c.read_move_files.new.after in
    let certificates = stream g.C.Source.account c.args.certificate.now c.read_move_files.new.certificate in
    let happenings = stream g.V.Source.account c.args.events.now c.read_move_files.new.events in
    let output = stream g.O.Sink.account c.args.output.now c.args.output.now in
    let ended : c.from_residual.result ≡ Err failed.field-0.0 = search rules in
    rw ended (plays_unread (TellsMovedRun befores afters certificates happenings) (IsPlayFault befores afters certificates happenings) (IsPlayAnswer befores afters certificates happenings) (λ why. IsPlayUnread why befores afters certificates happenings) _ output failed.field-0.0 (move_unread_written befores afters certificates happenings) failed.ensures.unread refl)

pub returns-clause-plays : goal.returns-clause-plays
returns-clause-plays g c =
    let read = c.in_ok-before in
    let befores = stream g.P.Source.account c.args.before.now c.read_move_files.new.before in
    let afters = stream g.Q.Source.account c.args.after.now c.read_move_files.new.after in
    let certificates = stream g.C.Source.account c.args.certificate.now c.read_move_files.new.certificate in
    let happenings = stream g.V.Source.account c.args.events.now c.read_move_files.new.events in
    let output = stream g.O.Sink.account c.args.output.now c.play_move.new.output in
    let events = map event_value read.events.items in
    let same = c.play_move.new.output ≡ c.args.output.now in
    let P : List Event → Type 0 = λ es. PlaysSo (MovesOn read.before read.after read.certificate (map event_value es)) (IsMoveFaultText read.before read.after read.certificate) (IsMovePlayText read.before read.after read.certificate (map event_value es)) (λ why. ⊥) same c.play_move.result output in
    plays_also (MovesOn read.before read.after read.certificate events) (TellsMovedRun befores afters certificates happenings) (IsMoveFaultText read.before read.after read.certificate) (IsPlayFault befores afters certificates happenings) (IsMovePlayText read.before read.after read.certificate events) (IsPlayAnswer befores afters certificates happenings) (λ why. ⊥) (λ why. IsPlayUnread why befores afters certificates happenings)
    same output (λ s runs. (read.before, read.after, read.certificate, read.events.items, read.ensures.given, runs)) (λ text is. (read.before, read.after, read.certificate, read.events.items, read.ensures.given, is)) (λ text is. (read.before, read.after, read.certificate, read.events.items, read.ensures.given, is)) (λ why none. absurd none)
    c.play_move.result (subst P c.as_slice.ensures.value c.play_move.ensures)
