use Rattle.net_sim.proofs.Hands.{finds_there, finds_within}
use Rattle.net_sim.proofs.network.Network.listener.Goals as goal

pub returns-clause-finds : goal.returns-clause-finds
returns-clause-finds g c = finds_there c.args.decided.now c.args.self.now.walkers.items c.in-Here.is c.listener_at.result c.listener_at.ensures

pub returns-clause-within : goal.returns-clause-within
returns-clause-within g c =
    let items = c.args.self.now.walkers.items in
    finds_within c.args.decided.now items c.listener_at.result (finds_there c.args.decided.now items c.in-Here.is c.listener_at.result c.listener_at.ensures)
