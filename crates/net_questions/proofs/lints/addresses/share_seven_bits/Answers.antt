use Rattle.net_questions.proofs.lints.addresses.share_seven_bits.Goals as goal

pub returns-then-is_earlier : goal.returns-then-is_earlier
returns-then-is_earlier c =
    (λ h. (c.is_earlier.ensures.0 c.if-is_earlier.true, c.have_shared_seven_bits.ensures.0 h), λ so. c.have_shared_seven_bits.ensures.1 so.1)
