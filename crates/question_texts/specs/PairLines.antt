-- The lines of pairs of nodes.
use Rattle.std.{specs.Prelude.{ℕ, List, length, ◌++◌, ◌&&◌, Bool, Option, Some, None, is_some, is_none, count_by, codes}, specs.Fmt.{decimal}, specs.List.{flat_map}}
use Rattle.plan_values.specs.declared.plan.Plan.{Plan}
use Rattle.net_questions.specs.declared.pair.Pair.{Pair}
use Rattle.net_tables.specs.Names.{node_name}

-- how many hops lead there, or that no way does
abbrev pub hops_text : Option ℕ → List ℕ
hops_text (Some hops) = codes "hops " ++ decimal hops
hops_text None = codes "none"

-- the names of two nodes, and how many hops lead from the one to the other
abbrev pub pair_line : Plan → Pair → List ℕ
pair_line plan pair = node_name plan pair.from ++ (codes " " ++ (node_name plan pair.to ++ (codes " "
    ++ (hops_text pair.there ++ codes "\n"))))

-- there is a way from the one node to the other
abbrev pub is_reached : Pair → Bool
is_reached pair = is_some pair.there

-- there is a way from the one node to the other, and none back
abbrev pub is_one_way : Pair → Bool
is_one_way pair = is_some pair.there && is_none pair.back

-- how many pairs there are, how many have a way there, and how many of these have none back
abbrev pub pairs_line : List Pair → List ℕ
pairs_line pairs = codes "pairs " ++ (decimal (length pairs)
    ++ (codes " reached " ++ (decimal (count_by is_reached pairs)
    ++ (codes " one-way " ++ (decimal (count_by is_one_way pairs) ++ codes "\n")))))

-- a line for each pair, in their order, and one that counts them
abbrev pub reach_text : Plan → List Pair → List ℕ
reach_text plan pairs = flat_map (pair_line plan) pairs ++ pairs_line pairs
