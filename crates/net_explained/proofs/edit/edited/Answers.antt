use Rattle.std.{proofs.Common.{◌≡◌, ◌<◌, length, refl, rules}, specs.Vec.{with_item}}
use Rattle.plan_values.specs.NodeValues.{node_value}
use Rattle.net_explained.{specs.Edits.{changed}, proofs.Editing.{edited_so, item_there}}
use Rattle.net_explained.proofs.edit.edited.Goals as goal

pub returns : goal.returns
returns c =
    let plan = c.args.plan in
    let edit = c.args.edit.now in
    let old = c.index_mut.result.now in
    let new = c.change_node.new.node in
    let within : edit.node < length plan.nodes.items = search rules in
    let by : node_value new ≡ changed edit.change (node_value old) = search rules in
    edited_so plan edit (with_item plan.nodes edit.node new) old new c.of.result (item_there plan.nodes.items edit.node old within c.index_mut.ensures.value) by refl c.of.ensures.whole
