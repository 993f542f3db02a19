use Rattle.plan_values.{specs.NodeValues.{but_rows}, proofs.SameItems.{same_here, value_here}}
use Rattle.net_rules.specs.MoveRules.{IsSameNode}
use Rattle.net_rules.proofs.rules.frames.is_same_node.Goals as goal

pub returns : goal.returns
unfolding IsSameNode
returns c =
    let xs = c.args.before.now.nodes.items in
    let ys = c.args.after.now.nodes.items in
    let one = c.index.result.now in
    let other = c.index-2.result.now in (
      λ yes.
          same_here but_rows xs ys c.args.node one other c.requires.before c.requires.after c.index.ensures c.index-2.ensures (c.are_same_but_rows.ensures.0 yes),
      λ same.
          c.are_same_but_rows.ensures.1 (value_here but_rows xs ys c.args.node one other c.requires.before c.requires.after c.index.ensures c.index-2.ensures same),
    )
