use Rattle.std.{proofs.Common.{◌≡◌, ◌++◌, map, option_map, drop}, specs.Vec.Iter.{into_iter_items}}
use Rattle.net_sim.{specs.TerminusQueues.{queue_state}, specs.Dealing.{resting, dealt}}
use Rattle.net_sim.proofs.dealing.deal.Given as goal

abbrev pub invariant-loop-node : goal.invariant-loop-node
invariant-loop-node g l =
    map (option_map (queue_state g.T.Terminus.tid g.T.Terminus.records)) l.queues.items
    ++ dealt (drop l.node-index l.node-items) (map (resting g.T.Terminus.tid g.T.Terminus.records) (into_iter_items l.left))
    ≡ dealt l.node-items (map (resting g.T.Terminus.tid g.T.Terminus.records) (into_iter_items l.initial.left))
