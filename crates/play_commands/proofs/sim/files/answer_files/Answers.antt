use Rattle.std.proofs.Common.{rules, ◌≡◌, List, map, Err, refl, subst}
use Rattle.plan_values.specs.declared.event.Event.{Event}
use Rattle.net_sim.specs.Outcomes.{event_value}
use Rattle.command_answers.specs.Answers.{stream, IsFaultText}
use Rattle.play_commands.{specs.Simulating.{RunsOn, IsPlayText, TellsRun, IsSimFault, IsSimAnswer, AreUnreadAmong, PlaysSo}, proofs.Playing.{plays_unread, plays_also}, proofs.UnreadInPlay.{unread_written}}
use Rattle.play_commands.proofs.sim.files.answer_files.Goals as goal

pub returns-in_err-plan-clause-plays : goal.returns-in_err-plan-clause-plays
returns-in_err-plan-clause-plays g c =
    let failed = c.in_err-plan in
    let plans = stream g.P.Source.account c.args.plan.now c.read_run.new.plan in
    let certificates = stream g.C.Source.account c.args.certificate.now c.read_run.new.certificate in
    let happenings = stream g.V.Source.account c.args.events.now c.read_run.new.events in
    let output = stream g.O.Sink.account c.args.output.now c.args.output.now in
    let ended : c.from_residual.result ≡ Err failed.field-0.0 = search rules in
    rw ended (plays_unread (TellsRun plans certificates happenings) (IsSimFault plans certificates happenings) (IsSimAnswer plans certificates happenings) (λ why. AreUnreadAmong why plans certificates happenings) _ output failed.field-0.0 (unread_written plans certificates happenings) failed.ensures.unread refl)

pub returns-clause-plays : goal.returns-clause-plays
returns-clause-plays g c =
    let read = c.in_ok-plan in
    let plans = stream g.P.Source.account c.args.plan.now c.read_run.new.plan in
    let certificates = stream g.C.Source.account c.args.certificate.now c.read_run.new.certificate in
    let happenings = stream g.V.Source.account c.args.events.now c.read_run.new.events in
    let output = stream g.O.Sink.account c.args.output.now c.play.new.output in
    let events = map event_value read.events.items in
    let same = c.play.new.output ≡ c.args.output.now in
    let P : List Event → Type 0 = λ es. PlaysSo (RunsOn read.plan read.certificate (map event_value es)) (IsFaultText read.plan read.certificate) (IsPlayText read.plan read.certificate (map event_value es)) (λ why. ⊥) same c.play.result output in
    plays_also (RunsOn read.plan read.certificate events) (TellsRun plans certificates happenings) (IsFaultText read.plan read.certificate) (IsSimFault plans certificates happenings) (IsPlayText read.plan read.certificate events) (IsSimAnswer plans certificates happenings) (λ why. ⊥) (λ why. AreUnreadAmong why plans certificates happenings)
    same output (λ s runs. (read.plan, read.certificate, read.events.items, read.ensures.given, read.ensures.events, runs)) (λ text is. (read.plan, read.certificate, read.events.items, read.ensures.given, read.ensures.events, is)) (λ text is. (read.plan, read.certificate, read.events.items, read.ensures.given, read.ensures.events, is)) (λ why none. absurd none)
    c.play.result (subst P c.as_slice.ensures.value c.play.ensures)
