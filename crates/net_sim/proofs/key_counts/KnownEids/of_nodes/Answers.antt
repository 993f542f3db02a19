use Rattle.net_sim.proofs.Counting.{nodes_known}
use Rattle.net_sim.proofs.key_counts.KnownEids.of_nodes.Goals as goal

pub returns : goal.returns
returns c = nodes_known c.of.result c.args.nodes.now _ c.in_ok-eids_of.ensures c.of.ensures
