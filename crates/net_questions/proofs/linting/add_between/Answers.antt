use Rattle.std.proofs.Common.{◌≡◌, [], ◌∷◌, subst, arith}
use Rattle.net_questions.{specs.Findings.{Adds, order_of, other_items_of}, proofs.Ascending.{Below, start, more, all}, proofs.Bounds.{end_of_other_items}}
use Rattle.net_questions.proofs.linting.add_between.Goals as goal

pub loop-other_item-init : goal.loop-other_item-init
loop-other_item-init c = start c.args.plan.now (order_of c.args.code ∷ c.args.site ∷ c.args.item ∷ c.args.other ∷ []) c.args.findings.now.items

pub loop-other_item-preserved : goal.loop-other_item-preserved
loop-other_item-preserved c =
    let plan = c.args.plan.now in
    more plan (order_of c.args.code ∷ c.args.site ∷ c.args.item ∷ c.args.other ∷ []) c.loop-other_item.other_item _ _ _ c.loop-other_item.invariant (rw c.finding_at-finding.ensures at c.in_ok-add_if_so.ensures)

pub returns : goal.returns
returns c =
    let plan = c.args.plan.now in
    let numbers = order_of c.args.code ∷ c.args.site ∷ c.args.item ∷ c.args.other ∷ [] in
    let ended : c.loop-other_item.other_item ≡ other_items_of plan c.args.code c.args.other = omega (arith, c.other_items-other_item-end.ensures) in
    all plan numbers (other_items_of plan c.args.code c.args.other) _ _ (λ f so at. end_of_other_items plan f so c.args.code c.args.site c.args.item c.args.other at)
    (subst (λ k. Adds (Below plan numbers k) c.args.findings.now.items c.loop-other_item.findings.items) ended c.loop-other_item.invariant)
