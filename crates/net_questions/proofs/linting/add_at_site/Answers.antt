use Rattle.std.proofs.Common.{◌≡◌, [], ◌∷◌, subst, arith}
use Rattle.net_questions.{specs.Findings.{Adds, order_of, items_of}, proofs.Ascending.{Below, start, more, all}, proofs.Bounds.{end_of_items}}
use Rattle.net_questions.proofs.linting.add_at_site.Goals as goal

pub loop-item-init : goal.loop-item-init
loop-item-init c = start c.args.plan.now (order_of c.args.code ∷ c.args.site ∷ []) c.args.findings.now.items

pub loop-item-preserved : goal.loop-item-preserved
loop-item-preserved c =
    let plan = c.args.plan.now in
    more plan (order_of c.args.code ∷ c.args.site ∷ []) c.loop-item.item _ _ _ c.loop-item.invariant c.in_ok-add_at_item.ensures

pub returns : goal.returns
returns c =
    let plan = c.args.plan.now in
    let numbers = order_of c.args.code ∷ c.args.site ∷ [] in
    let ended : c.loop-item.item ≡ items_of plan c.args.code c.args.site = omega (arith, c.items-item-end.ensures) in
    all plan numbers (items_of plan c.args.code c.args.site) _ _ (λ f so at. end_of_items plan f so c.args.code c.args.site at)
    (subst (λ k. Adds (Below plan numbers k) c.args.findings.now.items c.loop-item.findings.items) ended c.loop-item.invariant)
