use Rattle.std.proofs.Common.{◌≡◌, ℕ, ◌+◌, subst, arith, rules}
use Rattle.net_rules.{specs.Certificates.{IsMadeBefore, NamesObstacle, RulesOutCertificates}, specs.RoutingLoops.{IsRank}, proofs.RuleOrder.{order_at}, proofs.Obstacles.{ruled_out, if_err}, proofs.ExactCertificates.{made_exact, made_meets, exact_well_formed}}
use Rattle.net_rules.proofs.certifying.certify.Goals as goal

pub returns-clause-well_formed : goal.returns-clause-well_formed
returns-clause-well_formed c =
    let plan = c.args.plan.now in
    let made = c.loop-rule.made in
    let at : c.loop-rule.rule-index ≡ 16 = omega arith in
    let P : ℕ → Type 0 = λ k. IsMadeBefore plan k made in
    let is = subst P at c.loop-rule.invariant in
    exact_well_formed plan (IsRank plan) made (made_meets plan made is) (made_exact plan made is)

pub loop-rule-preserved : goal.loop-rule-preserved
loop-rule-preserved c =
    let P : ℕ → Type 0 = λ k. IsMadeBefore c.args.plan.now (k + 1) c.meet_rule.new.made in
    subst P (order_at c.loop-rule.rule-index _ c.loop-rule-test.true) c.in_ok-meet_rule.ensures.more

pub returns-in_err-meet_rule-clause-none : goal.returns-in_err-meet_rule-clause-none
returns-in_err-meet_rule-clause-none c =
    let plan = c.args.plan.now in
    if_err c.from_residual-in_err-meet_rule.result (NamesObstacle plan) (RulesOutCertificates plan) (ruled_out plan) (search rules)
