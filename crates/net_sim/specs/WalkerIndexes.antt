-- Where a walker stands, by its node, by the endpoint ID that it asks and by its tag.
use Rattle.std.{specs.Prelude.{◌≡◌, ℕ, List, Option, Some, slice_get}, specs.Ordering.{nat_cmp, ordering_then}, specs.declared.cmp.Ordering.{Ordering}, specs.BTreeMap.{get}}
use Rattle.net_sim.{specs.declared.network_walker.NetworkWalker.{NetworkWalker}, specs.declared.walker_index.WalkerIndex.{WalkerIndex}}

-- places in their order: by node, then by endpoint ID, then by tag
abbrev pub place_cmp : ℕ × ℕ × ℕ → ℕ × ℕ × ℕ → Ordering
place_cmp = λ x y. ordering_then (ordering_then (nat_cmp x.0 y.0) (nat_cmp x.1 y.1)) (nat_cmp x.2 y.2)

-- the index that is noted for a walker there
abbrev pub index_at : WalkerIndex → (node eid tag : ℕ) → Option ℕ
index_at index node eid tag = get place_cmp index.by_place (node, eid, tag)

-- each walker's index is noted
abbrev pub AreNoted : WalkerIndex → List NetworkWalker → Type 0
AreNoted index walkers = (i : ℕ) (walker : NetworkWalker) → slice_get walkers i ≡ Some walker
    → index_at index walker.node walker.eid.value walker.tag.value ≡ Some i
