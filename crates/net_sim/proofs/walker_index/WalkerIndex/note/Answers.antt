use Rattle.net_sim.proofs.Noting.{elsewhere}
use Rattle.net_sim.proofs.walker_index.WalkerIndex.note.Goals as goal

pub returns-in-Ok-clause-others : goal.returns-in-Ok-clause-others
returns-in-Ok-clause-others c = λ n e t other.
    c.in-Ok.ensures.updates.2 (n, e, t) (elsewhere c.args.node c.args.eid.value c.args.tag.value n e t other)
