use Rattle.std.proofs.Common.{◌≡◌, [], ◌∷◌, subst, arith}
use Rattle.net_questions.{specs.Findings.{Adds, order_of, sites_of}, proofs.Ascending.{Below, start, more, all}, proofs.Bounds.{end_of_sites}}
use Rattle.net_questions.proofs.linting.add_of_code.Goals as goal

pub loop-site-init : goal.loop-site-init
loop-site-init c = start c.args.plan.now (order_of c.args.code ∷ []) c.args.findings.now.items

pub loop-site-preserved : goal.loop-site-preserved
loop-site-preserved c =
    let plan = c.args.plan.now in
    more plan (order_of c.args.code ∷ []) c.loop-site.site _ _ _ c.loop-site.invariant c.in_ok-add_at_site.ensures

pub returns : goal.returns
returns c =
    let plan = c.args.plan.now in
    let numbers = order_of c.args.code ∷ [] in
    let ended : c.loop-site.site ≡ sites_of plan c.args.code = omega (arith, c.sites-site-end.ensures) in
    all plan numbers (sites_of plan c.args.code) _ _ (λ f so at. end_of_sites plan f so c.args.code at)
    (subst (λ k. Adds (Below plan numbers k) c.args.findings.now.items c.loop-site.findings.items) ended c.loop-site.invariant)
