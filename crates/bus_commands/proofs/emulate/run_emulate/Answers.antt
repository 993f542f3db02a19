use Rattle.std.proofs.Common.{rules, ◌≡◌, Result, Ok, Err, refl, subst}
use Rattle.command_answers.{specs.Answers.{stream}, specs.declared.status.Status.{Status}}
use Rattle.bus_commands.{specs.Emulating.{AnswersEmulation}, specs.declared.playing.Stop.{Stop}, proofs.Emulating.{ends_itself, stops, stops_unsaid}}
use Rattle.bus_commands.specs.declared.playing.Stop.TheVariants as stop
use Rattle.bus_commands.proofs.emulate.run_emulate.Goals as goal

pub returns-in-Ok-clause-emulates : goal.returns-in-Ok-clause-emulates
returns-in-Ok-clause-emulates g c =
    let answered = c.answer_emulation in
    let plans = stream g.P.Source.account c.args.plan.now answered.new.plan in
    let certificates = stream g.C.Source.account c.args.certificate.now answered.new.certificate in
    let inputs = stream g.I.Source.account c.args.packets.now answered.new.packets in
    let outputs = stream g.O.Sink.account c.args.output.now answered.new.output in
    let said = stream g.E.Sink.account c.args.errors.now answered.new.errors in
    let is : answered.result ≡ Ok c.in-Ok.status = search rules in
    ends_itself c.args.emulation.now plans certificates inputs outputs said c.in-Ok.status
    (subst (λ (r : Result Status Stop). AnswersEmulation c.args.emulation.now plans certificates r inputs outputs said) is answered.ensures.answers)

pub returns-in-Err-Refused-clause-emulates : goal.returns-in-Err-Refused-clause-emulates
returns-in-Err-Refused-clause-emulates g c =
    let answered = c.answer_emulation in
    let plans = stream g.P.Source.account c.args.plan.now answered.new.plan in
    let certificates = stream g.C.Source.account c.args.certificate.now answered.new.certificate in
    let inputs = stream g.I.Source.account c.args.packets.now answered.new.packets in
    let outputs = stream g.O.Sink.account c.args.output.now answered.new.output in
    let noted = stream g.E.Sink.account c.args.errors.now answered.new.errors in
    let said = stream g.E.Sink.account c.args.errors.now c.refuse.new.errors in
    let is : answered.result ≡ Err (stop.Refused c.in-Err-Refused.why) = search rules in
    stops c.args.emulation.now plans certificates inputs outputs said c.in-Err-Refused.why noted c.refuse.result
    (subst (λ (r : Result Status Stop). AnswersEmulation c.args.emulation.now plans certificates r inputs outputs noted) is answered.ensures.answers)
    refl c.refuse.ensures.refuses

pub returns-in-Err-Unsaid-clause-emulates : goal.returns-in-Err-Unsaid-clause-emulates
returns-in-Err-Unsaid-clause-emulates g c =
    let answered = c.answer_emulation in
    let plans = stream g.P.Source.account c.args.plan.now answered.new.plan in
    let certificates = stream g.C.Source.account c.args.certificate.now answered.new.certificate in
    let inputs = stream g.I.Source.account c.args.packets.now answered.new.packets in
    let outputs = stream g.O.Sink.account c.args.output.now answered.new.output in
    let said = stream g.E.Sink.account c.args.errors.now answered.new.errors in
    let is : answered.result ≡ Err stop.Unsaid = search rules in
    stops_unsaid c.args.emulation.now plans certificates inputs outputs said
    (subst (λ (r : Result Status Stop). AnswersEmulation c.args.emulation.now plans certificates r inputs outputs said) is answered.ensures.answers)

pub returns-in-Ok-clause-in_order : goal.returns-in-Ok-clause-in_order
returns-in-Ok-clause-in_order g c = λ without. let kept = c.answer_emulation.ensures.in_order without in (kept.0, kept.1, kept.2)

pub returns-in-Err-Refused-clause-in_order : goal.returns-in-Err-Refused-clause-in_order
returns-in-Err-Refused-clause-in_order g c = λ without. let kept = c.answer_emulation.ensures.in_order without in (kept.0, kept.1, kept.2)

pub returns-in-Err-Unsaid-clause-in_order : goal.returns-in-Err-Unsaid-clause-in_order
returns-in-Err-Unsaid-clause-in_order g c = λ without. let kept = c.answer_emulation.ensures.in_order without in (kept.0, kept.1, kept.2)
