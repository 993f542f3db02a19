use Rattle.std.proofs.Common.{◌≡◌, [], ◌∷◌, subst, arith}
use Rattle.net_questions.{specs.Findings.{Adds, order_of, others_of}, proofs.Ascending.{Below, start, more, all}, proofs.Bounds.{end_of_others}}
use Rattle.net_questions.proofs.linting.add_at_item.Goals as goal

pub loop-other-init : goal.loop-other-init
loop-other-init c = start c.args.plan.now (order_of c.args.code ∷ c.args.site ∷ c.args.item ∷ []) c.args.findings.now.items

pub loop-other-preserved : goal.loop-other-preserved
loop-other-preserved c =
    let plan = c.args.plan.now in
    more plan (order_of c.args.code ∷ c.args.site ∷ c.args.item ∷ []) c.loop-other.other _ _ _ c.loop-other.invariant c.in_ok-add_between.ensures

pub returns : goal.returns
returns c =
    let plan = c.args.plan.now in
    let numbers = order_of c.args.code ∷ c.args.site ∷ c.args.item ∷ [] in
    let ended : c.loop-other.other ≡ others_of plan c.args.code = omega (arith, c.others-other-end.ensures) in
    all plan numbers (others_of plan c.args.code) _ _ (λ f so at. end_of_others plan f so c.args.code c.args.site c.args.item at)
    (subst (λ k. Adds (Below plan numbers k) c.args.findings.now.items c.loop-other.findings.items) ended c.loop-other.invariant)
