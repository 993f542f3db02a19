use Rattle.std.proofs.Common.{refl, rules, ◌≡◌, Err, inr, inl}
use Rattle.play_commands.proofs.sim.files.read_run.Goals as goal

pub returns-in_err-plan-clause-unread : goal.returns-in_err-plan-clause-unread
returns-in_err-plan-clause-unread g c =
    let failed = c.in_err-plan in
    let ended : c.from_residual.result ≡ Err failed.field-0.0 = search rules in
    rw ended (inl failed.ensures.unread)

pub returns-in_err-events-clause-unread : goal.returns-in_err-events-clause-unread
returns-in_err-events-clause-unread g c =
    let failed = c.in_err-events in
    let read = c.in_ok-plan in
    let ended : c.from_residual-in_err-events.result ≡ Err failed.field-0.0 = search rules in
    rw ended (inr (read.plan, read.certificate, read.ensures.given, failed.ensures.unread))

pub returns-in_err-plan-clause-in_order : goal.returns-in_err-plan-clause-in_order
returns-in_err-plan-clause-in_order g c = λ without. (c.read_inputs.ensures.in_order without, refl)

pub returns-in_err-events-clause-in_order : goal.returns-in_err-events-clause-in_order
returns-in_err-events-clause-in_order g c = λ without. absurd (without c.in_ok-plan.plan c.in_ok-plan.ensures.given.plan_text)

pub returns-clause-in_order : goal.returns-clause-in_order
returns-clause-in_order g c = λ without. absurd (without c.in_ok-plan.plan c.in_ok-plan.ensures.given.plan_text)

pub returns-in_err-plan-clause-certified_in_order : goal.returns-in_err-plan-clause-certified_in_order
returns-in_err-plan-clause-certified_in_order g c = λ without. refl

pub returns-in_err-events-clause-certified_in_order : goal.returns-in_err-events-clause-certified_in_order
returns-in_err-events-clause-certified_in_order g c = λ without. absurd (without c.in_ok-plan.plan c.in_ok-plan.certificate c.in_ok-plan.ensures.given)

pub returns-clause-certified_in_order : goal.returns-clause-certified_in_order
returns-clause-certified_in_order g c = λ without. absurd (without c.in_ok-plan.plan c.in_ok-plan.certificate c.in_ok-plan.ensures.given)
