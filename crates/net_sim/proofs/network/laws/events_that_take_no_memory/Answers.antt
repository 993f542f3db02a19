use Rattle.net_sim.proofs.MemoryFree.{never_wants, lacks_no_room}
use Rattle.net_sim.proofs.network.laws.events_that_take_no_memory.Goals as goal

pub returns-clause-lacks : goal.returns-clause-lacks
returns-clause-lacks g c = λ w event stands. lacks_no_room g.T.Terminus.tid g.T.Terminus.records c.args.network.now w stands event

pub returns-clause-wants : goal.returns-clause-wants
returns-clause-wants g c = never_wants
