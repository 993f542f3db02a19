-- The nodes that were filled stand before what is left to fill.
use Rattle.std.{proofs.Common.{◌≡◌, ◌++◌, map, length}, specs.Vec.Iter.{into_iter_items, into_iter_len}}
use Rattle.plan_values.specs.NodeValues.{node_value}
use Rattle.net_plan.specs.Skeleton.{placed_value, with_parts}
use Rattle.net_plan.proofs.skeleton.with_parts.Given as goal

abbrev pub invariant-nodes : goal.invariant-nodes
invariant-nodes l = (with_parts (map node_value (into_iter_items l.initial.rest)) (map placed_value (into_iter_items l.initial.parts))
    ≡ map node_value l.filled.items ++ with_parts (map node_value (into_iter_items l.rest)) (map placed_value (into_iter_items l.parts)))
    × (into_iter_len l.rest ≡ length (into_iter_items l.rest))

abbrev pub decreases-nodes : goal.decreases-nodes
decreases-nodes l = length (into_iter_items l.rest)
