use Rattle.net_questions.proofs.lints.termini.share_tid.Goals as goal

pub returns-then-node-other : goal.returns-then-node-other
returns-then-node-other c = (λ h. (c.if-node-other.true, c.have_shared_tid.ensures.0 h), λ so. c.have_shared_tid.ensures.1 so.1)
