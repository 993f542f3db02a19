-- The lines of what is wrong with a move, and of what rules its certificates out.
use Rattle.std.{specs.Prelude.{ℕ, ◌-◌, List, ◌++◌, Option, Some, None, codes, length, replicate}, specs.Fmt.{decimal}, specs.List.{flat_map}}
use Rattle.net_rules.{specs.declared.certify_error.CertifyError.{CertifyError}, specs.declared.mixed_loop.Side.{Side}, specs.declared.move_obstacle.MoveObstacle.{MoveObstacle}, specs.declared.move_fault.MoveRule.TheVariants.{OfPlan}, specs.declared.move_error.MoveError.{MoveError}, specs.declared.move_fault.MoveFault.{MoveFault}, specs.MoveFaults.{code_of_move}}
use Rattle.net_tables.{specs.Routing.{eid_number}, specs.Names.{node_name}}
use Rattle.plan_values.specs.declared.plan.Plan.{Plan}
use Rattle.plan_texts.{specs.Lines.{number_or_dash, names_text, obstacle_text}, specs.LineParts.{name_or_none}}
use Rattle.net_rules.specs.declared.certify_error.CertifyError.TheVariants as alone
use Rattle.net_rules.specs.declared.mixed_loop.Side.TheVariants as side
use Rattle.net_rules.specs.declared.move_obstacle.MoveObstacle.TheVariants as obstacle
use Rattle.net_rules.specs.declared.move_error.MoveError.TheVariants as error

-- whose rule is broken: the code, the node's name, the entry and the endpoint ID
abbrev pub move_fault_text : Plan → List ℕ → MoveFault → List ℕ
move_fault_text plan whose fault =
    codes "fault " ++ (whose ++ (code_of_move fault.rule ++ (codes " node " ++ (node_name plan fault.node
    ++ (codes " entry " ++ (number_or_dash fault.entry
    ++ (codes " eid " ++ (number_or_dash (eid_number fault.eid) ++ codes "\n"))))))))

-- the plans differ in more than rows, at a node of the name
abbrev pub difference_text : Plan → Option ℕ → List ℕ
difference_text plan node = codes "fault M01 node " ++ (name_or_none plan node ++ codes " entry - eid -\n")

-- why the plans and the certificate are not accepted as a move, where nodes have their names in the plan; want of
-- memory has no text
abbrev pub move_error_text : Plan → MoveError → Option (List ℕ)
move_error_text plan (error.Differ node) = Some (difference_text plan node)
move_error_text plan (error.Old fault) = Some (move_fault_text plan (codes "old ") fault)
move_error_text plan (error.New fault) = Some (move_fault_text plan (codes "new ") fault)
move_error_text plan (error.Both fault) = Some (move_fault_text plan (codes "") fault)
move_error_text plan error.OutOfMemory = None

-- the word of a plan: of the one before, of the one after
abbrev pub side_word : Side → List ℕ
side_word side.Old = codes "old"
side_word side.New = codes "new"

-- the words of plans, in their order, each after a space
abbrev pub sides_text : List Side → List ℕ
sides_text sides = flat_map (λ side. codes " " ++ side_word side) sides

-- an endpoint ID that can go round, the nodes of its loop, and the plan of the row from each to the next
abbrev pub mixed_loop_text : Plan → ℕ → List ℕ → List Side → List ℕ
mixed_loop_text plan eid nodes sides = codes "loop eid " ++ (decimal eid ++ (codes " nodes" ++ (names_text plan nodes
    ++ (codes " by" ++ (sides_text sides ++ codes "\n")))))

-- the same where all rows are of the plan before
abbrev pub old_loop_text : Plan → ℕ → List ℕ → List ℕ
old_loop_text plan eid nodes = mixed_loop_text plan eid nodes (replicate (length nodes - 1) side.Old)

-- why the plan before has no certificate by itself; want of memory has no text
abbrev pub old_obstacle_text : Plan → CertifyError → Option (List ℕ)
old_obstacle_text plan (alone.Fault fault) = Some (move_fault_text plan (codes "old ")
    (record { rule = OfPlan fault.rule; node = fault.node; entry = fault.entry; eid = fault.eid }))
old_obstacle_text plan (alone.OwnerLoop nodes) = obstacle_text plan (alone.OwnerLoop nodes)
old_obstacle_text plan (alone.Loop eid nodes) = Some (old_loop_text plan eid.value nodes.items)
old_obstacle_text plan (alone.BadChain node kind entry) = obstacle_text plan (alone.BadChain node kind entry)
old_obstacle_text plan alone.OutOfMemory = None

-- what rules certificates of the move out, where nodes have their names in the plan; want of memory does not
abbrev pub move_obstacle_text : Plan → MoveObstacle → Option (List ℕ)
move_obstacle_text plan (obstacle.Old e) = old_obstacle_text plan e
move_obstacle_text plan (obstacle.Fault e) = move_error_text plan e
move_obstacle_text plan (obstacle.Loop loop) =
    Some (mixed_loop_text plan loop.eid.value loop.nodes.items loop.sides.items)
move_obstacle_text plan obstacle.OutOfMemory = None
