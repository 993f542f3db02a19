use Rattle.std.proofs.Common.{rules, ◌≡◌, Err, inr, inl}
use Rattle.command_answers.proofs.inputs.read_move.Goals as goal

pub returns-in_err-after-clause-unread : goal.returns-in_err-after-clause-unread
returns-in_err-after-clause-unread g c =
    let failed = c.in_err-after in
    let ended : c.from_residual-in_err-after.result ≡ Err failed.field-0.0 = search rules in
    rw ended (inl (inr (c.in_ok-before.before, c.in_ok-before.ensures.given, failed.ensures.unread)))

pub returns-in_err-certificate-clause-unread : goal.returns-in_err-certificate-clause-unread
returns-in_err-certificate-clause-unread g c =
    let failed = c.in_err-certificate in
    let ended : c.from_residual-in_err-certificate.result ≡ Err failed.field-0.0 = search rules in
    rw ended (inr (c.in_ok-before.before, c.in_ok-after.after, c.in_ok-before.ensures.given, c.in_ok-after.ensures.given, failed.ensures.unread))

pub returns-in_err-after-clause-in_order : goal.returns-in_err-after-clause-in_order
returns-in_err-after-clause-in_order g c = λ without. absurd (without c.in_ok-before.before c.in_ok-before.ensures.given)

pub returns-in_err-certificate-clause-in_order : goal.returns-in_err-certificate-clause-in_order
returns-in_err-certificate-clause-in_order g c = λ without. absurd (without c.in_ok-before.before c.in_ok-before.ensures.given)

pub returns-in_err-certificate-clause-after_in_order : goal.returns-in_err-certificate-clause-after_in_order
returns-in_err-certificate-clause-after_in_order g c = λ without. absurd (without c.in_ok-after.after c.in_ok-after.ensures.given)

pub returns-clause-in_order : goal.returns-clause-in_order
returns-clause-in_order g c = λ without. absurd (without c.in_ok-before.before c.in_ok-before.ensures.given)

pub returns-clause-after_in_order : goal.returns-clause-after_in_order
returns-clause-after_in_order g c = λ without. absurd (without c.in_ok-after.after c.in_ok-after.ensures.given)
