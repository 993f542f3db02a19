use Rattle.std.proofs.Common.{◌≡◌, ◌≤◌, length, vec_capacity}
use Rattle.net_sim.{specs.Networks.{network_value, checked_of}, proofs.PlayedRuns.{HasPlayed}}
use Rattle.net_sim.proofs.network.Network.run.Given as goal

abbrev pub invariant-loop-event : goal.invariant-loop-event
invariant-loop-event g l =
    (checked_of l.self ≡ checked_of l.initial.self)
    × HasPlayed (checked_of l.initial.self).0
    (network_value g.T.Terminus.tid g.T.Terminus.records l.initial.self)
    l.events l.event-index l.outcomes.items
    (network_value g.T.Terminus.tid g.T.Terminus.records l.self)
    × (length l.events ≤ vec_capacity l.outcomes)
