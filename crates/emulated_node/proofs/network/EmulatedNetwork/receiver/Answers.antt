use Rattle.std.proofs.Common.{◌<◌, length, arith}
use Rattle.emulated_node.proofs.Spreading.{node_there}
use Rattle.emulated_node.proofs.network.EmulatedNetwork.receiver.Goals as goal

pub returns-else-packet-len : goal.returns-else-packet-len
returns-else-packet-len g c =
    let within : c.in-Some.node < length c.args.self.now.nodes.items = omega (arith, c.if-node-len.false, c.len.ensures) in
    let set = node_there c.args.self.now.nodes.items c.in-Some.node within in
    (within, (set.0, record { next = c.in-Some.is; inside = c.if-node-self.false; there = set.1; bus = omega (arith, c.if-packet-len.false, c.len-else-node-len.ensures) }))
