use Rattle.net_faults.specs.PlanFaults.{AreBadChainsBefore}
use Rattle.net_faults.proofs.chain_faults.bad_chains.Given as goal

abbrev pub invariant-loop-node : goal.invariant-loop-node
invariant-loop-node l = AreBadChainsBefore l.plan l.node l.chains.items
