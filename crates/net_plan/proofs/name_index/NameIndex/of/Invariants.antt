-- The names that were passed have their index.
use Rattle.std.proofs.Common.{◌≡◌, ℕ, List, length, map, take}
use Rattle.net_plan.{specs.NameIndexes.{noted}, specs.Names.{index_of}}
use Rattle.net_plan.proofs.name_index.NameIndex.of.Given as goal

abbrev pub invariant-loop-index : goal.invariant-loop-index
invariant-loop-index g l = ((q : List ℕ) → noted l.known q ≡ index_of (map (g.N.Naming.name_of l.naming) (take l.index l.items)) q) × (l.known.count ≡ length l.items)
