use Rattle.net_sim.proofs.Noting.{tells_there}
use Rattle.net_sim.proofs.network.Network.has_walker.Goals as goal

pub returns : goal.returns
returns g c =
    tells_there c.args.node c.args.eid.value c.args.tag.value c.args.self.now.walkers.items c.walker_at.result c.is_some.result c.is_some.ensures c.walker_at.ensures
