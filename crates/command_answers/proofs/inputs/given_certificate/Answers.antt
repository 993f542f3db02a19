use Rattle.command_answers.proofs.Telling.{no_certificate}
use Rattle.command_answers.proofs.inputs.given_certificate.Goals as goal

pub returns-in-Err-clause-unread : goal.returns-in-Err-clause-unread
returns-in-Err-clause-unread g c =
    let facts = c.in-Err.ensures in
    rw c.at_input.ensures (no_certificate c.in-Err.error c.args.plan.now _ facts.refused facts.counts)
