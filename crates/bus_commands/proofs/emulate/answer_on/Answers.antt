use Rattle.std.proofs.Common.{rules, ◌≡◌, Err}
use Rattle.command_answers.specs.Answers.{stream}
use Rattle.bus_commands.proofs.Emulating.{emulates_part, emulates_all}
use Rattle.bus_commands.proofs.emulate.answer_on.Goals as goal

pub returns-in_err-emulate-in-Ok-clause-answers : goal.returns-in_err-emulate-in-Ok-clause-answers
returns-in_err-emulate-in-Ok-clause-answers g c =
    let failed = c.in_err-emulate-in-Ok in
    let ended : c.from_residual.result ≡ Err failed.field-0.0 = search rules in
    rw ended (emulates_part c.args.emulation.now c.args.plan.now c.args.certificate.now c.in-Some.node c.in-Some.ensures c.in-Ok.ensures.accepted c.in-Ok.checked c.in-Ok.ensures.checked
    (stream g.I.Source.account c.args.packets.now c.emulate.new.packets) (stream g.O.Sink.account c.args.output.now c.emulate.new.output)
    (stream g.E.Sink.account c.args.errors.now c.emulate.new.errors) (Unit {0}) failed.field-0.0 failed.ensures.plays)

pub returns-in_ok-emulate-in-Ok-clause-answers : goal.returns-in_ok-emulate-in-Ok-clause-answers
returns-in_ok-emulate-in-Ok-clause-answers g c =
    let done = c.in_ok-emulate-in-Ok in
    emulates_all c.args.emulation.now c.args.plan.now c.args.certificate.now c.in-Some.node c.in-Some.ensures c.in-Ok.ensures.accepted c.in-Ok.checked c.in-Ok.ensures.checked
    (stream g.I.Source.account c.args.packets.now c.emulate.new.packets) (stream g.O.Sink.account c.args.output.now c.emulate.new.output)
    (stream g.E.Sink.account c.args.errors.now c.emulate.new.errors) (Unit {0}) done.field-0 done.ensures.plays
