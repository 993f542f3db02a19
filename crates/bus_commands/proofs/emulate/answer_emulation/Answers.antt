use Rattle.command_answers.specs.Answers.{stream}
use Rattle.bus_commands.proofs.Emulating.{answers_given}
use Rattle.bus_commands.proofs.emulate.answer_emulation.Goals as goal

pub returns-clause-answers : goal.returns-clause-answers
returns-clause-answers g c =
    let read = c.in_ok-plan in
    answers_given c.args.emulation.now read.plan read.certificate (stream g.P.Source.account c.args.plan.now c.read_inputs.new.plan)
    (stream g.C.Source.account c.args.certificate.now c.read_inputs.new.certificate) (stream g.I.Source.account c.args.packets.now c.answer_on.new.packets)
    (stream g.O.Sink.account c.args.output.now c.answer_on.new.output) (stream g.E.Sink.account c.args.errors.now c.answer_on.new.errors)
    c.answer_on.result read.ensures.given c.answer_on.ensures.answers

pub returns-clause-in_order : goal.returns-clause-in_order
returns-clause-in_order g c = λ without. absurd (without c.in_ok-plan.plan c.in_ok-plan.ensures.given.plan_text)

pub returns-clause-certified_in_order : goal.returns-clause-certified_in_order
returns-clause-certified_in_order g c = λ without. absurd (without c.in_ok-plan.plan c.in_ok-plan.certificate c.in_ok-plan.ensures.given)
