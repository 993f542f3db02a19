use Rattle.net_questions.proofs.lints.ports.share_address.Goals as goal

pub returns-then-is_earlier : goal.returns-then-is_earlier
returns-then-is_earlier c =
    (λ h. (c.is_earlier.ensures.0 c.if-is_earlier.true, c.have_shared_address.ensures.0 h), λ so. c.have_shared_address.ensures.1 so.1)
