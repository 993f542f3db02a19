use Rattle.std.{proofs.Common.{map, ap, ◌∙◌}, proofs.lemmas.List.{map-set}}
use Rattle.plan_values.specs.NodeValues.{node_value, row_value}
use Rattle.net_explained.proofs.Editing.{map_remove}
use Rattle.net_explained.proofs.edit.change_node.Goals as goal

pub returns-else-at-len : goal.returns-else-at-len
returns-else-at-len c =
    let node = node_value c.args.node.now in
    λ done. rw c.in-Row.is (ap (λ rows. record node { rows = rows }) (map-set row_value c.args.node.now.rows.items c.in-Row.at c.in-Row.row))

pub returns-else-at-len-2 : goal.returns-else-at-len-2
returns-else-at-len-2 c =
    let node = node_value c.args.node.now in
    let rows = ap (λ rows. map row_value rows) c.remove.ensures.items ∙ map_remove row_value c.args.node.now.rows.items c.in-LessRow.at in
    λ done. rw c.in-LessRow.is (ap (λ rows. record node { rows = rows }) rows)
