use Rattle.std.proofs.Common.{rules}
use Rattle.net_rules.specs.RecordChains.{IsBadChain}
use Rattle.net_tables.specs.Repositories.{records_of}
use Rattle.net_faults.proofs.ChainListed.{chain_pushed}
use Rattle.net_faults.proofs.chain_faults.add_chain.Goals as goal

pub returns : goal.returns
returns c =
    let bad : IsBadChain (records_of c.args.plan.now c.args.node) c.in-Some.kind c.in-Some.entry = search rules in
    rw c.in_ok-push.ensures.items (chain_pushed c.args.plan.now c.args.node c.args.chains.now.items c.requires c.in-Some.kind c.in-Some.entry bad)
