use Rattle.std.{proofs.Common.{length, arith, inl, inr}, proofs.lemmas.Bool.{cases_lt}}
use Rattle.net_rules.proofs.MoveOrder.{same_node_beyond}
use Rattle.net_rules.proofs.rules.frames.first_unlike_node.Goals as goal

pub returns : goal.returns
returns c = λ n.
    let before = c.args.before.now in
    elim (cases_lt n (length before.nodes.items)) [
      | inl within ↦ c.loop-node.invariant n (omega arith)
      | inr past ↦ same_node_beyond before c.args.after.now n past (omega arith)
    ]
