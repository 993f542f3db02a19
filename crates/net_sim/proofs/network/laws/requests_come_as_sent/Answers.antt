use Rattle.net_sim.proofs.SentRequests as law
use Rattle.net_sim.proofs.network.laws.requests_come_as_sent.Goals as goal

pub returns : goal.returns
returns c = law.requests_come_as_sent
