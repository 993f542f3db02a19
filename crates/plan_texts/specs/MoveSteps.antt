-- The lines of the steps from the rows of one plan to those of another.
use Rattle.std.{specs.Prelude.{ℕ, suc, ◌+◌, List, [], ◌∷◌, ◌++◌, codes, length, nat_eq, if◌then◌else◌, Option, Some, option_map}, specs.Fmt.{decimal}, specs.List.{flat_map}}
use Rattle.plan_values.specs.declared.plan.Plan.{Plan}
use Rattle.net_rollout.{specs.declared.change.Part.{Part}, specs.declared.change.Change.{Change}, specs.declared.change.Step.{Step}, specs.declared.change.Rollout.{Rollout}}
use Rattle.net_tables.specs.Names.{node_name}
use Rattle.plan_texts.{specs.Lines.{names_text}, specs.MoveLines.{move_obstacle_text}, specs.LineParts.{name_or_none}}
use Rattle.net_rollout.specs.declared.change.Change.TheVariants as change
use Rattle.net_rollout.specs.declared.change.Rollout.TheVariants as way

-- the endpoint IDs of a part: the one, or the first and the last
abbrev pub eids_text : ℕ → ℕ → List ℕ
eids_text first last = if nat_eq first last then decimal first else decimal first ++ (codes "-" ++ decimal last)

-- the number of the step, the node, the endpoint IDs and the node to which the new rows send them
abbrev pub part_text : Plan → ℕ → Part → List ℕ
part_text plan number part = codes "step " ++ (decimal number ++ (codes " rows of " ++ (node_name plan part.node
    ++ (codes ": " ++ (eids_text part.first.value part.last.value ++ (codes " by " ++ (name_or_none plan part.next
    ++ codes "\n")))))))

-- the number of the step, and the nodes
abbrev pub switch_text : Plan → ℕ → List ℕ → List ℕ
switch_text plan number nodes =
    codes "step " ++ (decimal number ++ (codes " switch" ++ (names_text plan nodes ++ codes "\n")))

-- a line for the nodes, or for each of the parts
abbrev pub change_text : Plan → ℕ → Change → List ℕ
change_text plan number (change.Nodes nodes) = switch_text plan number nodes.items
change_text plan number (change.Parts parts) = flat_map (part_text plan number) parts.items

-- the lines of steps, which are counted from this number on
abbrev pub steps_text : Plan → ℕ → List Step → List ℕ
steps_text plan number [] = []
steps_text plan number (step ∷ steps) = change_text plan number step.change ++ steps_text plan (suc number) steps

-- what is printed of a rollout, where nodes have their names in the plan; want of memory has no text
abbrev pub rollout_text : Plan → Rollout → Option (List ℕ)
rollout_text plan (way.AnyOrder cert) = Some (codes "any order\n")
rollout_text plan (way.Steps steps last) =
    Some (steps_text plan 1 steps.items ++ switch_text plan (length steps.items + 1) last.nodes.items)
rollout_text plan (way.Stuck steps o) =
    option_map (λ line. steps_text plan 1 steps.items ++ (codes "stuck\n" ++ line)) (move_obstacle_text plan o)
rollout_text plan (way.Unfit o) = move_obstacle_text plan o
