-- The names that were passed have their index, and those that are left decide.
use Rattle.std.proofs.Common.{◌≡◌, ℕ, List, map, take, drop}
use Rattle.net_plan.{specs.NameIndexes.{noted}, specs.Names.{index_of, are_new, names_differ}}
use Rattle.net_plan.proofs.name_index.names_differ.Given as goal

abbrev pub invariant-loop-index : goal.invariant-loop-index
invariant-loop-index g l = ((q : List ℕ) → noted l.known q ≡ index_of (map (g.N.Naming.name_of l.naming) (take l.index l.items)) q)
    × (are_new (map (g.N.Naming.name_of l.naming) (take l.index l.items)) (map (g.N.Naming.name_of l.naming) (drop l.index l.items)) ≡ names_differ (map (g.N.Naming.name_of l.naming) l.items))
