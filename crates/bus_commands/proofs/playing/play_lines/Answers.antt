use Rattle.std.proofs.Common.{rules, ◌≡◌, ◌∙◌, Ok, Err, refl, ap, subst, arith, ◌^◌, ◌-◌}
use Rattle.bus_commands.proofs.LinesPlayed.{HasPlayed, between, played_none, played_more, played_all, played_part, played_most, keeps_after}
use Rattle.bus_commands.proofs.playing.play_lines.Goals as goal

pub loop-init : goal.loop-init
loop-init g c = (
  refl,
  λ s stands. played_none (g.P.Player.stands c.args.player.now) (g.P.Player.takes (g.P.Player.nature c.args.player.now)) s
      (g.I.Source.account c.args.packets.now) (g.O.Sink.account c.args.output.now) (g.E.Sink.account c.args.errors.now) stands,
  refl,
  refl,
  refl,
)

pub loop-preserved : goal.loop-preserved
loop-preserved g c =
    let l = c.loop in
    let went = c.in_ok-is_last.ensures in
    let Stands = g.P.Player.stands in (
      went.same ∙ l.invariant.0,
      λ s stands. played_more (Stands l.player) (Stands c.play_line.new.player) g.P.Player.takes (g.P.Player.nature c.args.player.now) (g.P.Player.nature l.player) l.invariant.0 s l.counter
          (g.I.Source.account c.args.packets.now) (g.I.Source.account l.packets) (g.I.Source.account c.play_line.new.packets)
          (g.O.Sink.account c.args.output.now) (g.O.Sink.account l.output) (g.O.Sink.account c.play_line.new.output)
          (g.E.Sink.account c.args.errors.now) (g.E.Sink.account l.errors) (g.E.Sink.account c.play_line.new.errors)
          (l.invariant.1 s stands) (Ok c.in_ok-is_last.is_last) (ap Ok c.if-is_last.false) went.plays,
      went.read ∙ l.invariant.2,
      went.written ∙ l.invariant.3,
      went.noted ∙ l.invariant.4,
    )

pub returns-then-is_last-clause-plays : goal.returns-then-is_last-clause-plays
returns-then-is_last-clause-plays g c =
    let l = c.loop in
    let went = c.in_ok-is_last.ensures in
    let Stands = g.P.Player.stands in
    λ s stands. played_all (Stands l.player) (Stands c.play_line.new.player) g.P.Player.takes (g.P.Player.nature c.args.player.now) (g.P.Player.nature l.player) l.invariant.0 s l.counter
    (g.I.Source.account c.args.packets.now) (g.I.Source.account l.packets) (g.I.Source.account c.play_line.new.packets)
    (g.O.Sink.account c.args.output.now) (g.O.Sink.account l.output) (g.O.Sink.account c.play_line.new.output)
    (g.E.Sink.account c.args.errors.now) (g.E.Sink.account l.errors) (g.E.Sink.account c.play_line.new.errors)
    (l.invariant.1 s stands) (Ok c.in_ok-is_last.is_last) (ap Ok c.if-is_last.true) went.plays

pub returns-then-is_last-clause-noted : goal.returns-then-is_last-clause-noted
returns-then-is_last-clause-noted g c = c.in_ok-is_last.ensures.noted ∙ c.loop.invariant.4

pub returns-in_err-is_last-clause-plays : goal.returns-in_err-is_last-clause-plays
returns-in_err-is_last-clause-plays g c =
    let l = c.loop in
    let failed = c.in_err-is_last in
    let ended : c.from_residual.result ≡ Err failed.field-0.0 = search rules in
    let Stands = g.P.Player.stands in
    rw ended (λ s stands. played_part (Stands l.player) (Stands c.play_line.new.player) g.P.Player.takes (g.P.Player.nature c.args.player.now) (g.P.Player.nature l.player) l.invariant.0 s l.counter
    (g.I.Source.account c.args.packets.now) (g.I.Source.account l.packets) (g.I.Source.account c.play_line.new.packets)
    (g.O.Sink.account c.args.output.now) (g.O.Sink.account l.output) (g.O.Sink.account c.play_line.new.output)
    (g.E.Sink.account c.args.errors.now) (g.E.Sink.account l.errors) (g.E.Sink.account c.play_line.new.errors)
    (l.invariant.1 s stands) failed.field-0.0 failed.ensures.plays)

pub returns-in_err-is_last-clause-noted : goal.returns-in_err-is_last-clause-noted
returns-in_err-is_last-clause-noted g c =
    let failed = c.in_err-is_last in
    let ended : c.from_residual.result ≡ Err failed.field-0.0 = search rules in
    rw ended (keeps_after failed.field-0.0 (g.E.Sink.account c.args.errors.now) (g.E.Sink.account c.loop.errors) (g.E.Sink.account c.play_line.new.errors) c.loop.invariant.4 failed.ensures.noted)

pub returns-clause-plays : goal.returns-clause-plays
returns-clause-plays g c =
    let l = c.loop in
    let Stands = g.P.Player.stands in
    let many : l.counter ≡ 2 ^ 64 - 1 = omega (arith, c.loop-test.false, l.auto.counter-end) in
    λ s stands. played_most (Stands l.player) (g.P.Player.takes (g.P.Player.nature c.args.player.now)) s
    (g.I.Source.account c.args.packets.now) (g.I.Source.account l.packets) (g.O.Sink.account c.args.output.now) (g.O.Sink.account l.output)
    (g.E.Sink.account c.args.errors.now) (g.E.Sink.account l.errors) c.at_input.result
    (subst (λ n. HasPlayed (Stands l.player) (g.P.Player.takes (g.P.Player.nature c.args.player.now)) s n (between (g.I.Source.account c.args.packets.now) (g.I.Source.account l.packets))
    (between (g.O.Sink.account c.args.output.now) (g.O.Sink.account l.output)) (between (g.E.Sink.account c.args.errors.now) (g.E.Sink.account l.errors))) many (l.invariant.1 s stands))
    c.at_input.ensures

pub returns-clause-noted : goal.returns-clause-noted
returns-clause-noted g c = c.loop.invariant.4
