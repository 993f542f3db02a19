-- The lines by which a text says whom nodes are to reach.
use Rattle.std.{specs.Prelude.{ℕ, List, ◌++◌, codes}, specs.List.{flat_map}}
use Rattle.plan_values.specs.declared.plan.Plan.{Plan}
use Rattle.net_tables.specs.Names.{node_name}
use Rattle.net_reached.{specs.declared.wish.Wish.{Wish}, specs.declared.wish.Wish.TheVariants.{Nothing, Reaches, ReachesAll, Avoids}}

-- the line of a wish
abbrev pub wish_line : Plan → Wish → List ℕ
wish_line plan (Nothing line) = line.now ++ codes "\n"
wish_line plan (Reaches from to) = node_name plan from ++ (codes " " ++ (node_name plan to ++ codes "\n"))
wish_line plan (ReachesAll from) = node_name plan from ++ codes " -> *\n"
wish_line plan (Avoids from to) = node_name plan from ++ (codes " -/> " ++ (node_name plan to ++ codes "\n"))

-- a line for each wish
abbrev pub wish_lines : Plan → List Wish → List ℕ
wish_lines plan wishes = flat_map (wish_line plan) wishes
