use Rattle.explanation_texts.proofs.explanations.chain_pieces.Goals as goal

pub circle_pieces-requires : goal.circle_pieces-requires
circle_pieces-requires c =
    let bad = rw c.in-Circle.is at c.requires.bad in
    record { handles = c.requires.handles; circle = bad.2.0 }
