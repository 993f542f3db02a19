-- The lines that tell what becomes of ways, and what a roll-out needs.
use Rattle.std.{specs.Prelude.{ℕ, ◌+◌, List, ◌++◌, Option, Some, None, codes, length, option_map}, specs.Fmt.{decimal}}
use Rattle.plan_values.specs.declared.plan.Plan.{Plan}
use Rattle.net_tables.specs.Names.{node_name}
use Rattle.net_rollout.specs.declared.change.Rollout.{Rollout}
use Rattle.plan_texts.specs.MoveLines.{move_obstacle_text}
use Rattle.plan_differences.specs.declared.ways.OtherWay.{OtherWay}
use Rattle.net_rollout.specs.declared.change.Rollout.TheVariants as way

-- the names of two nodes
abbrev pub ends_text : Plan → ℕ → ℕ → List ℕ
ends_text plan a b = codes "from " ++ (node_name plan a ++ (codes " to " ++ node_name plan b))

abbrev pub hops_text : ℕ → List ℕ
hops_text hops = codes "hops " ++ decimal hops

-- what becomes of the way of the words, by its hops in the old plan and the new one, where it has any
abbrev pub hops_line : List ℕ → Option ℕ → Option ℕ → List ℕ
hops_line ends (Some before) (Some after) =
    codes "changed way " ++ (ends ++ (codes ": "
    ++ (hops_text before ++ (codes " -> " ++ (hops_text after ++ codes "\n")))))
hops_line ends (Some before) None = codes "removed way " ++ (ends ++ (codes ": " ++ (hops_text before ++ codes "\n")))
hops_line ends None (Some after) = codes "added way " ++ (ends ++ (codes ": " ++ (hops_text after ++ codes "\n")))
hops_line ends None None = codes ""

-- the line of a way, where nodes have their names in the plan
abbrev pub way_text : Plan → OtherWay → List ℕ
way_text plan way = hops_line (ends_text plan way.from way.to) way.before way.after

-- what a rollout needs, where nodes have their names in the plan; want of memory has no text
abbrev pub need_text : Plan → Rollout → Option (List ℕ)
need_text plan (way.AnyOrder cert) = Some (codes "rollout: any order\n")
need_text plan (way.Steps steps last) =
    Some (codes "rollout: " ++ (decimal (length steps.items + 1) ++ codes " steps\n"))
need_text plan (way.Stuck steps o) = option_map (λ line. codes "rollout: stuck: " ++ line) (move_obstacle_text plan o)
need_text plan (way.Unfit o) = option_map (λ line. codes "rollout: " ++ line) (move_obstacle_text plan o)
