use Rattle.explain_commands.proofs.explain.moved.rows.has_certificate.Goals as goal

pub returns-in-Ok : goal.returns-in-Ok
returns-in-Ok c = (c.in-Ok._certificate, c.in-Ok.ensures.accepted)
