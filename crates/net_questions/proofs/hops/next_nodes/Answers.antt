use Rattle.std.{proofs.Common.{◌≡◌, ◌+◌, sym, arith, subst, inl, inr, ◌++◌, ◌∷◌, []}, proofs.lemmas.List.{length_push}}
use Rattle.net_rules.specs.RoutingLoops.{IsNext, AreNexts}
use Rattle.net_tables.proofs.Elements.{in_push}
use Rattle.net_questions.proofs.hops.next_nodes.Goals as goal

pub loop-node-preserved : goal.loop-node-preserved
loop-node-preserved c =
    let plan = c.args.plan.now in
    let e = c.args.eid.value in
    let nexts = c.loop-node.nexts.items in
    let next = c.next_node.result in
    let more : AreNexts plan e (c.loop-node.node + 1) (nexts ++ next ∷ []) = (
      omega (arith, length_push nexts next, c.loop-node.invariant.0),
      λ n found is. elim (in_push nexts next n found is) [
        | inl old ↦ c.loop-node.invariant.1 n found old
        | inr (at, same) ↦ (
            let here : n ≡ c.loop-node.node = omega (arith, at, c.loop-node.invariant.0) in
            subst (λ o. IsNext plan e n o) same (subst (λ k. IsNext plan e k next) (sym here) c.next_node.ensures.row))
      ],
    ) in
    rw c.in_ok-push.ensures.items more
