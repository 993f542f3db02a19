use Rattle.std.proofs.Common.{◌≡◌, ◌≢◌, ◌+◌, ◌++◌, ◌∷◌, [], List, ℕ, arith, subst, sym, rules}
use Rattle.net_rollout.{specs.Steps.{row_values}, proofs.Made.{AreChangedBefore, none_more, one_changed, all_changed}, proofs.changed_plan.changed_nodes.Goals.{then-not-are_same+in_ok-push, else-not-are_same}}
use Rattle.net_rollout.proofs.changed_plan.changed_nodes.Goals as goal

pub loop-node-preserved : goal.loop-node-preserved
loop-node-preserved c =
    let before = c.args.before.now in
    let after = c.args.after.now in
    let k = c.loop-node.node in
    let nodes = c.loop-node.nodes.items in
    let P : List ℕ → Type 0 = AreChangedBefore before after (k + 1) in
    elim c.if-not-are_same.branch [
      | then-not-are_same+in_ok-push w ↦ (
          let differs : row_values after k ≢ row_values before k = search rules in
          let pushed : c.if-not-are_same.nodes.items ≡ nodes ++ k ∷ [] = search rules in
          subst P (sym pushed) (one_changed before after k nodes differs c.loop-node.invariant))
      | else-not-are_same w ↦ (
          let same : row_values after k ≡ row_values before k = search rules in
          let kept : c.if-not-are_same.nodes.items ≡ nodes = search rules in
          subst P (sym kept) (none_more before after k nodes same c.loop-node.invariant))
    ]

pub returns : goal.returns
returns c =
    let before = c.args.before.now in
    let after = c.args.after.now in
    all_changed before after c.loop-node.node c.loop-node.nodes.items (omega (arith, c.max-node-end.ensures)) (omega (arith, c.max-node-end.ensures)) c.loop-node.invariant
