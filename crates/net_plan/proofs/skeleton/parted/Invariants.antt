-- What was taken stands before what is left.
use Rattle.std.{proofs.Common.{◌≡◌, ◌++◌, map, length}, specs.Vec.Iter.{into_iter_items, into_iter_len}}
use Rattle.net_plan.proofs.skeleton.parted.Given as goal

abbrev pub invariant-nodes : goal.invariant-nodes
invariant-nodes l = (map (λ s. s.value) (into_iter_items l.initial.rest) ≡ l.values.items ++ map (λ s. s.value) (into_iter_items l.rest))
    × (map (λ s. s.parts) (into_iter_items l.initial.rest) ≡ l.list.items ++ map (λ s. s.parts) (into_iter_items l.rest))
    × (into_iter_len l.rest ≡ length (into_iter_items l.rest))

abbrev pub decreases-nodes : goal.decreases-nodes
decreases-nodes l = length (into_iter_items l.rest)
