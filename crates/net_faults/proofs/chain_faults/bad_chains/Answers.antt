use Rattle.std.proofs.Common.{arith}
use Rattle.net_faults.proofs.ChainListed.{no_chains, all_chains}
use Rattle.net_faults.proofs.chain_faults.bad_chains.Goals as goal

pub loop-node-init : goal.loop-node-init
loop-node-init c = rw c.new-chains.ensures.items (no_chains c.args.plan.now)

pub returns : goal.returns
returns c = all_chains c.args.plan.now c.loop-node.node c.loop-node.chains.items (omega (arith, c.loop-node-test.false)) c.loop-node.invariant
