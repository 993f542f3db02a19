use Rattle.std.proofs.Common.{refl, rules, ◌≡◌, Err, inr, inl}
use Rattle.play_commands.proofs.sim.moves.read_move_files.Goals as goal

pub returns-in_err-before-clause-unread : goal.returns-in_err-before-clause-unread
returns-in_err-before-clause-unread g c =
    let failed = c.in_err-before in
    let ended : c.from_residual.result ≡ Err failed.field-0.0 = search rules in
    rw ended (inl failed.ensures.unread)

pub returns-in_err-events-clause-unread : goal.returns-in_err-events-clause-unread
returns-in_err-events-clause-unread g c =
    let failed = c.in_err-events in
    let read = c.in_ok-before in
    let ended : c.from_residual-in_err-events.result ≡ Err failed.field-0.0 = search rules in
    rw ended (inr (read.before, read.after, read.certificate, read.ensures.given, failed.ensures.unread))

pub returns-in_err-before-clause-in_order : goal.returns-in_err-before-clause-in_order
returns-in_err-before-clause-in_order g c = λ without.
    let left = c.read_move.ensures.in_order without in (left.0, left.1, refl)

pub returns-in_err-before-clause-after_in_order : goal.returns-in_err-before-clause-after_in_order
returns-in_err-before-clause-after_in_order g c = λ without. (c.read_move.ensures.after_in_order without, refl)

pub returns-in_err-events-clause-in_order : goal.returns-in_err-events-clause-in_order
returns-in_err-events-clause-in_order g c = λ without. absurd (without c.in_ok-before.before c.in_ok-before.ensures.given.before_text)

pub returns-in_err-events-clause-after_in_order : goal.returns-in_err-events-clause-after_in_order
returns-in_err-events-clause-after_in_order g c = λ without. absurd (without c.in_ok-before.after c.in_ok-before.ensures.given.after_text)

pub returns-clause-in_order : goal.returns-clause-in_order
returns-clause-in_order g c = λ without. absurd (without c.in_ok-before.before c.in_ok-before.ensures.given.before_text)

pub returns-clause-after_in_order : goal.returns-clause-after_in_order
returns-clause-after_in_order g c = λ without. absurd (without c.in_ok-before.after c.in_ok-before.ensures.given.after_text)

pub returns-in_err-before-clause-certified_in_order : goal.returns-in_err-before-clause-certified_in_order
returns-in_err-before-clause-certified_in_order g c = λ without. refl

pub returns-in_err-events-clause-certified_in_order : goal.returns-in_err-events-clause-certified_in_order
returns-in_err-events-clause-certified_in_order g c = λ without. absurd (without c.in_ok-before.before c.in_ok-before.after c.in_ok-before.certificate c.in_ok-before.ensures.given)

pub returns-clause-certified_in_order : goal.returns-clause-certified_in_order
returns-clause-certified_in_order g c = λ without. absurd (without c.in_ok-before.before c.in_ok-before.after c.in_ok-before.certificate c.in_ok-before.ensures.given)
