use Rattle.std.proofs.Common.{◌-◌, List, [], ◌∷◌, ◌++◌, ◌∙◌, get_or, ap, arith}
use Rattle.plan_texts.{specs.declared.drawings.red.Hop.{Hop}, proofs.Hops.{along_next}}
use Rattle.plan_texts.proofs.drawings.red.hops_along.Goals as goal

pub loop-index-preserved : goal.loop-index-preserved
loop-index-preserved c =
    let nodes = c.args.nodes.now in
    let index = c.loop-index.index in
    let hop : Hop = record { eid = c.args.eid; from = get_or nodes (index - 1) 0; to = get_or nodes index 0 } in
    c.in_ok-push.ensures.items
    ∙ (ap (λ (hops : List Hop). hops ++ hop ∷ []) c.loop-index.invariant ∙ along_next c.args.eid nodes index (omega arith) (omega arith))
