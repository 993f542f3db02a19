use Rattle.mctp_transport.specs.Packets.{key_value}
use Rattle.net_sim.proofs.Noting.{requests_for_nobody, listens_there}
use Rattle.net_sim.proofs.network.Network.listener_at.Goals as goal

pub returns-then-key : goal.returns-then-key
returns-then-key g c = requests_for_nobody c.args.node (key_value c.args.key) c.args.self.now.walkers.items c.if-key.true

pub returns : goal.returns
returns g c = listens_there c.args.node (key_value c.args.key) c.args.self.now.walkers.items c.if-key.false c.walker_at.result c.walker_at.ensures
