use Rattle.std.proofs.Common.{rules, ◌≡◌, Err, inr}
use Rattle.command_answers.proofs.inputs.read_inputs.Goals as goal

pub returns-in_err-certificate-clause-unread : goal.returns-in_err-certificate-clause-unread
returns-in_err-certificate-clause-unread g c =
    let failed = c.in_err-certificate in
    let ended : c.from_residual-in_err-certificate.result ≡ Err failed.field-0.0 = search rules in
    rw ended (inr (c.in_ok-plan.plan, c.in_ok-plan.ensures.given, failed.ensures.unread))

pub returns-in_err-certificate-clause-in_order : goal.returns-in_err-certificate-clause-in_order
returns-in_err-certificate-clause-in_order g c = λ without. absurd (without c.in_ok-plan.plan c.in_ok-plan.ensures.given)

pub returns-clause-in_order : goal.returns-clause-in_order
returns-clause-in_order g c = λ without. absurd (without c.in_ok-plan.plan c.in_ok-plan.ensures.given)
