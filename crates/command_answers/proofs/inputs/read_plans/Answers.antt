use Rattle.std.proofs.Common.{rules, ◌≡◌, Err, inr}
use Rattle.command_answers.proofs.inputs.read_plans.Goals as goal

pub returns-in_err-second-clause-unread : goal.returns-in_err-second-clause-unread
returns-in_err-second-clause-unread g c =
    let failed = c.in_err-second in
    let ended : c.from_residual-in_err-second.result ≡ Err failed.field-0.0 = search rules in
    rw ended (inr (c.in_ok-first.first, c.in_ok-first.ensures.given, failed.ensures.unread))

pub returns-in_err-second-clause-in_order : goal.returns-in_err-second-clause-in_order
returns-in_err-second-clause-in_order g c = λ without. absurd (without c.in_ok-first.first c.in_ok-first.ensures.given)

pub returns-clause-in_order : goal.returns-clause-in_order
returns-clause-in_order g c = λ without. absurd (without c.in_ok-first.first c.in_ok-first.ensures.given)
