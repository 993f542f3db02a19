-- What is promised of the network that is played: of every run with walkers that it may stand for.
use Rattle.plan_values.specs.declared.certificate.Certificate.{Certificate}
use Rattle.net_tables.specs.TwoPlans.{Tables}
use Rattle.net_runs.specs.WalkedPromises.{WalkedHeadline, WalkedDelivers}

-- A packet enters only the node that holds its destination, within its certified hops; what comes joins packets that
-- were put in earlier, by a put, an answer or a walker's request; and a flight whose destination is held, and held or
-- routed by its origin, is never stopped, and enters within its certified hops and one move more.
pub record IsPromised (tables : Tables) (cert : Certificate) : Type 0 where
  pub headline : WalkedHeadline tables cert
  pub delivers : WalkedDelivers tables cert
