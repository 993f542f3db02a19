use Rattle.std.proofs.Common.{rules, ◌≡◌, Ok, Err, string_bytes}
use Rattle.command_answers.specs.Answers.{stream}
use Rattle.bus_commands.proofs.LinesPlayed.{given_line, breaks_line}
use Rattle.bus_commands.proofs.playing.play_line.Goals as goal

pub returns-in_err-write_turn-in-Ok-take-clause-plays : goal.returns-in_err-write_turn-in-Ok-take-clause-plays
returns-in_err-write_turn-in-Ok-take-clause-plays g c = λ s stands.
    let failed = c.in_err-write_turn-in-Ok-take in
    let took = c.in-Ok-take.ensures.taken s stands in
    let turn = c.in-Ok-take.turn in
    let ended : c.from_residual.result ≡ Err failed.field-0.0 = search rules in
    rw ended (breaks_line (g.P.Player.stands c.take.new.self) (g.P.Player.takes (g.P.Player.nature c.args.player.now)) s took.0 c.in-Ok.line.is_last
    c.deref.result.now c.in-Ok.line.text.items (string_bytes turn.answer) turn.note.items (stream g.I.Source.account c.args.packets.now c.next_line.new.source)
    (stream g.O.Sink.account c.args.output.now c.write_turn.new.output) (stream g.E.Sink.account c.args.errors.now c.write_turn.new.errors)
    c.in-Ok.ensures.given c.deref.ensures.value took.1 took.2 (Unit {0}) failed.field-0.0 failed.ensures.writes)

pub returns-in-Ok-take-clause-plays : goal.returns-in-Ok-take-clause-plays
returns-in-Ok-take-clause-plays g c = λ s stands.
    let took = c.in-Ok-take.ensures.taken s stands in
    let turn = c.in-Ok-take.turn in
    given_line (g.P.Player.stands c.take.new.self) (g.P.Player.takes (g.P.Player.nature c.args.player.now)) s took.0 c.in-Ok.line.is_last
    c.deref.result.now c.in-Ok.line.text.items (string_bytes turn.answer) turn.note.items (stream g.I.Source.account c.args.packets.now c.next_line.new.source)
    (stream g.O.Sink.account c.args.output.now c.write_turn.new.output) (stream g.E.Sink.account c.args.errors.now c.write_turn.new.errors)
    c.in-Ok.ensures.given c.deref.ensures.value took.1 took.2 (Ok c.in-Ok.line.is_last) c.in_ok-write_turn-in-Ok-take.ensures.writes
