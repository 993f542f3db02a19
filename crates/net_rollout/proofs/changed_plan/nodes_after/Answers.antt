use Rattle.std.{proofs.Common.{◌≡◌, ◌+◌, ◌++◌, ◌∷◌, [], Some, length, arith, subst, sym, rules}, specs.Prelude.{slice_get}, proofs.lemmas.Option.{slice_get_read}}
use Rattle.plan_values.specs.NodeValues.{but_rows}
use Rattle.net_rollout.{specs.Steps.{AreNodesAfter, IsNodeAfter}, proofs.Made.{node_more, node_so}}
use Rattle.net_rollout.proofs.changed_plan.nodes_after.Goals as goal

pub loop-index-preserved : goal.loop-index-preserved
loop-index-preserved c =
    let here = c.args.here.now in
    let new = c.args.new.now in
    let change = c.args.change.now in
    let k = c.loop-index.index in
    let nodes = c.loop-index.nodes.items in
    let node = c.in-Some.node in
    let old = c.index.result.now in
    let there : slice_get here.nodes.items k ≡ Some old = slice_get_read here.nodes.items (length here.nodes.items) k old (omega arith) (omega arith) c.index.ensures in
    let pushed : c.push.new.self.items ≡ nodes ++ node ∷ [] = search rules in
    let made : (but_rows node ≡ but_rows old) × (node.rows ≡ c.in_ok-rows.rows) = search rules in
    let is : IsNodeAfter here new change k node = node_so here new change k old node c.in_ok-rows.rows there made.0 made.1 c.in_ok-rows.ensures in
    subst (AreNodesAfter here new change (k + 1)) (sym pushed) (node_more here new change k nodes node is c.loop-index.invariant)
