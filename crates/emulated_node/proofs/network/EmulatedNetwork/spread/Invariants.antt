use Rattle.std.proofs.Common.{◌≡◌, ◌≤◌, length, map}
use Rattle.emulated_node.{specs.Emulating.{HaveStates}, specs.Emulations.{world_of}, specs.Networks.{States, sent_value}, proofs.Spreading.{HasSpread}}
use Rattle.emulated_node.proofs.network.EmulatedNetwork.spread.Given as goal

abbrev pub invariant-loop-index : goal.invariant-loop-index
invariant-loop-index g l = (world_of l.self ≡ world_of l.initial.self)
    × (length l.handled.items ≡ l.index)
    × (l.index ≤ length l.packets.items)
    × ((s : States) → HaveStates g.T.Terminus.tid g.T.Terminus.records l.initial.self.nodes.items s
    → HasSpread (HaveStates g.T.Terminus.tid g.T.Terminus.records l.self.nodes.items) (world_of l.initial.self) s (sent_value l.fn.put) (map sent_value l.packets.items) l.handled.items)
