use Rattle.std.{proofs.Common.{refl}, specs.Prelude.{option_map}}
use Rattle.command_answers.specs.Answers.{stream}
use Rattle.audit_commands.proofs.Audited.{at_bus, no_bus}
use Rattle.audit_commands.proofs.audit.answer_at_bus.Goals as goal

pub returns-in-Ok-clause-answers : goal.returns-in-Ok-clause-answers
returns-in-Ok-clause-answers g c =
    at_bus c.args.plan.now c.args.certificate.now (option_map (λ n. n.now) c.args.bus) c.in-Ok.bus c.args.is_complete (stream g.T.Source.account c.args.capture.now c.answer_capture.new.capture)
    c.answer_capture.result c.in-Ok.ensures.known c.answer_capture.ensures.answers

pub returns-in-Err-clause-answers : goal.returns-in-Err-clause-answers
returns-in-Err-clause-answers g c =
    no_bus c.args.plan.now c.args.certificate.now (option_map (λ n. n.now) c.args.bus) c.args.is_complete (stream g.T.Source.account c.args.capture.now c.args.capture.now)
    c.unknown_bus.result c.in-Err.ensures.unknown refl c.unknown_bus.ensures.status c.unknown_bus.ensures.text
