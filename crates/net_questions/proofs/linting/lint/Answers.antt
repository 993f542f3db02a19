use Rattle.std.proofs.Common.{◌≡◌, [], subst, arith, rules}
use Rattle.net_questions.{specs.Findings.{Adds}, proofs.Ascending.{Below, more}, proofs.Bounds.{order_at, are_findings, start_empty}}
use Rattle.net_questions.proofs.linting.lint.Goals as goal

pub loop-code-init : goal.loop-code-init
loop-code-init c = start_empty c.args.plan.now c.new-findings.result.items (search rules)

pub loop-code-preserved : goal.loop-code-preserved
loop-code-preserved c =
    let plan = c.args.plan.now in
    let added = rw (order_at c.loop-code.code-index _ c.loop-code-test.true) at c.in_ok-add_of_code.ensures in
    more plan [] c.loop-code.code-index [] c.loop-code.findings.items _ c.loop-code.invariant added

pub returns : goal.returns
returns c =
    let plan = c.args.plan.now in
    let ended : c.loop-code.code-index ≡ 23 = omega arith in
    are_findings plan c.loop-code.findings.items (subst (λ k. Adds (Below plan [] k) [] c.loop-code.findings.items) ended c.loop-code.invariant)
