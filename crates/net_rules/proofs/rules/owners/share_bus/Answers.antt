use Rattle.net_rules.proofs.SharedBuses.{shared_bus}
use Rattle.net_rules.proofs.rules.owners.share_bus.Goals as goal

pub returns : goal.returns
returns c = shared_bus c.args.plan.now c.args.node c.args.other _ _ c.ports_at.ensures c.are_some_on_bus_of.ensures
