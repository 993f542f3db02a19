use Rattle.std.proofs.Common.{None}
use Rattle.net_rules.proofs.EidMoves.{nowhere}
use Rattle.net_rules.proofs.certifying.next_nodes.next_node.Goals as goal

pub returns-in-None : goal.returns-in-None
returns-in-None c = nowhere c.args.plan.now c.args.eid.value c.args.node (c.requires c.args.eid.value None c.in-None.ensures)
