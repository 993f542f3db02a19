use Rattle.std.proofs.Common.{ℕ, ◌≡◌, ◌<◌, None}
use Rattle.net_tables.specs.Routing.{Holds}
use Rattle.net_runs.specs.States.{NetworkState}
use Rattle.net_sim.{specs.Traffics.{traffic_value}, specs.Standing.{HasNetworkState}}
use Rattle.net_sim.proofs.traffic.Traffic.no_terminus_holds.Given as goal

abbrev pub invariant-loop-node : goal.invariant-loop-node
invariant-loop-node g l = (w : NetworkState)
    → HasNetworkState (traffic_value g.T.Terminus.tid g.T.Terminus.records l.self) w
    → (n : ℕ) → n < l.node → Holds l.self.router.tables.plan n l.eid.value → w.terminus n ≡ None
