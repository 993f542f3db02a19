-- Lines of plans of one value.
use Rattle.std.{proofs.Common.{◌≡◌, ℕ, ◌-◌, List, ◌++◌, length, replicate, map, Option, Some, None, refl, sym, ap, ◌∙◌}, specs.Prelude.{codes, option_map, slice_get, string_bytes, unwrap_or}, specs.Fmt.{decimal}, specs.List.{flat_map}, proofs.lemmas.Option.{slice_get-map}}
use Rattle.plan_values.{specs.declared.plan.Plan.{Plan}, specs.declared.nodes.Node.{Node}, specs.PlanValues.{plan_value}, specs.NodeValues.{NodeValue, node_value}}
use Rattle.net_tables.{specs.Names.{node_name}, specs.Routing.{eid_number}}
use Rattle.net_rules.{specs.Rules.{code_of}, specs.RecordChains.{chain_word_of}, specs.MoveFaults.{code_of_move}, specs.declared.fault.Fault.{Fault}, specs.declared.certify_error.CertifyError.{CertifyError}, specs.declared.mixed_loop.Side.{Side}, specs.declared.move_fault.MoveFault.{MoveFault}, specs.declared.move_fault.MoveRule.TheVariants.{OfPlan}, specs.declared.move_error.MoveError.{MoveError}, specs.declared.move_obstacle.MoveObstacle.{MoveObstacle}}
use Rattle.plan_texts.{specs.Lines.{number_or_dash, names_text, as_line, fault_text, obstacle_text}, specs.MoveLines.{move_fault_text, move_error_text, move_obstacle_text, sides_text}}
use Rattle.net_rules.specs.declared.certify_error.CertifyError.TheVariants as alone
use Rattle.net_rules.specs.declared.mixed_loop.Side.TheVariants as side
use Rattle.net_rules.specs.declared.move_error.MoveError.TheVariants as error
use Rattle.net_rules.specs.declared.move_obstacle.MoveObstacle.TheVariants as obstacle

name_seen : (o : Option Node) → unwrap_or (option_map (λ (v : NodeValue). v.name) (option_map node_value o)) (codes "-") ≡ unwrap_or (option_map (λ (node : Node). string_bytes node.name.text) o) (codes "-")
name_seen None = refl
name_seen (Some node) = refl

-- a node has one name in plans of one value
name_alike : (plan other : Plan) → plan_value plan ≡ plan_value other → (n : ℕ) → node_name plan n ≡ node_name other n
name_alike plan other same n =
    let nodes : map node_value plan.nodes.items ≡ map node_value other.nodes.items = λ i. (same i).nodes in
    let at : option_map node_value (slice_get plan.nodes.items n) ≡ option_map node_value (slice_get other.nodes.items n) =
    sym (slice_get-map node_value plan.nodes.items n) ∙ (ap (λ vs. slice_get vs n) nodes ∙ slice_get-map node_value other.nodes.items n) in
    sym (name_seen (slice_get plan.nodes.items n)) ∙ (ap (λ o. unwrap_or (option_map (λ (v : NodeValue). v.name) o) (codes "-")) at ∙ name_seen (slice_get other.nodes.items n))

names_alike : (plan other : Plan) → plan_value plan ≡ plan_value other → (nodes : List ℕ) → names_text plan nodes ≡ names_text other nodes
names_alike plan other same nodes = λ i. flat_map (λ node. codes " " ++ name_alike plan other same node i) nodes

pub fault_alike : (plan other : Plan) → plan_value plan ≡ plan_value other → (fault : Fault) → fault_text plan fault ≡ fault_text other fault
fault_alike plan other same fault = ap (λ name. as_line (codes "fault " ++ (code_of fault.rule ++ (codes " node " ++ (name
    ++ (codes " entry " ++ (number_or_dash fault.entry
    ++ (codes " eid " ++ number_or_dash (eid_number fault.eid)))))))))
    (name_alike plan other same fault.node)

pub obstacle_alike : (plan other : Plan) → plan_value plan ≡ plan_value other → (e : CertifyError) → obstacle_text plan e ≡ obstacle_text other e
obstacle_alike plan other same (alone.Fault fault) = ap Some (fault_alike plan other same fault)
obstacle_alike plan other same (alone.OwnerLoop nodes) =
    ap (λ names. Some (as_line (codes "owner loop nodes" ++ names))) (names_alike plan other same nodes.items)
obstacle_alike plan other same (alone.Loop eid nodes) =
    ap (λ names. Some (as_line (codes "loop eid " ++ (decimal eid.value ++ (codes " nodes" ++ names))))) (names_alike plan other same nodes.items)
obstacle_alike plan other same (alone.BadChain node kind entry) =
    ap (λ name. Some (as_line (codes "chain node " ++ (name ++ (codes " " ++ (chain_word_of kind ++ (codes " entry " ++ decimal entry)))))))
    (name_alike plan other same node)
obstacle_alike plan other same alone.OutOfMemory = refl

move_fault_alike : (plan other : Plan) → plan_value plan ≡ plan_value other → (whose : List ℕ) (fault : MoveFault) → move_fault_text plan whose fault ≡ move_fault_text other whose fault
move_fault_alike plan other same whose fault = ap (λ name. codes "fault " ++ (whose ++ (code_of_move fault.rule ++ (codes " node " ++ (name
    ++ (codes " entry " ++ (number_or_dash fault.entry
    ++ (codes " eid " ++ (number_or_dash (eid_number fault.eid) ++ codes "\n")))))))))
    (name_alike plan other same fault.node)

pub move_error_alike : (plan other : Plan) → plan_value plan ≡ plan_value other → (e : MoveError) → move_error_text plan e ≡ move_error_text other e
move_error_alike plan other same (error.Differ None) = refl
move_error_alike plan other same (error.Differ (Some node)) =
    ap (λ name. Some (codes "fault M01 node " ++ (name ++ codes " entry - eid -\n"))) (name_alike plan other same node)
move_error_alike plan other same (error.Old fault) = ap Some (move_fault_alike plan other same (codes "old ") fault)
move_error_alike plan other same (error.New fault) = ap Some (move_fault_alike plan other same (codes "new ") fault)
move_error_alike plan other same (error.Both fault) = ap Some (move_fault_alike plan other same (codes "") fault)
move_error_alike plan other same error.OutOfMemory = refl

mixed_loop_alike : (plan other : Plan) → plan_value plan ≡ plan_value other → (eid : ℕ) (nodes : List ℕ) (sides : List Side)
    → Some (codes "loop eid " ++ (decimal eid ++ (codes " nodes" ++ (names_text plan nodes ++ (codes " by" ++ (sides_text sides ++ codes "\n"))))))
    ≡ Some (codes "loop eid " ++ (decimal eid ++ (codes " nodes" ++ (names_text other nodes ++ (codes " by" ++ (sides_text sides ++ codes "\n"))))))
mixed_loop_alike plan other same eid nodes sides =
    ap (λ names. Some (codes "loop eid " ++ (decimal eid ++ (codes " nodes" ++ (names ++ (codes " by" ++ (sides_text sides ++ codes "\n")))))))
    (names_alike plan other same nodes)

pub move_obstacle_alike : (plan other : Plan) → plan_value plan ≡ plan_value other → (o : MoveObstacle) → move_obstacle_text plan o ≡ move_obstacle_text other o
move_obstacle_alike plan other same (obstacle.Old (alone.Fault fault)) = ap Some (move_fault_alike plan other same (codes "old ")
    (record { rule = OfPlan fault.rule; node = fault.node; entry = fault.entry; eid = fault.eid }))
move_obstacle_alike plan other same (obstacle.Old (alone.OwnerLoop nodes)) = obstacle_alike plan other same (alone.OwnerLoop nodes)
move_obstacle_alike plan other same (obstacle.Old (alone.Loop eid nodes)) =
    mixed_loop_alike plan other same eid.value nodes.items (replicate (length nodes.items - 1) side.Old)
move_obstacle_alike plan other same (obstacle.Old (alone.BadChain node kind entry)) = obstacle_alike plan other same (alone.BadChain node kind entry)
move_obstacle_alike plan other same (obstacle.Old alone.OutOfMemory) = refl
move_obstacle_alike plan other same (obstacle.Fault e) = move_error_alike plan other same e
move_obstacle_alike plan other same (obstacle.Loop loop) = mixed_loop_alike plan other same loop.eid.value loop.nodes.items loop.sides.items
move_obstacle_alike plan other same obstacle.OutOfMemory = refl
