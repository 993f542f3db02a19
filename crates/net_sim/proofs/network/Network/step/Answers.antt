use Rattle.net_sim.{specs.Networks.{checked_of}, proofs.PlayedWalks.{one_walks, promised}}
use Rattle.net_sim.proofs.network.Network.step.Goals as goal

pub returns-clause-walks : goal.returns-clause-walks
returns-clause-walks g c =
    one_walks (checked_of c.args.self.now).0 (checked_of c.args.self.now).1 _ _ _ c.play.result c.plan-plan.ensures.accepted c.play.ensures.plays

pub returns-clause-promises : goal.returns-clause-promises
returns-clause-promises g c = promised (checked_of c.args.self.now).0 (checked_of c.args.self.now).1 c.plan-plan.ensures.accepted
