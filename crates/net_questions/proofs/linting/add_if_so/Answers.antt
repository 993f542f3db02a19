use Rattle.net_questions.proofs.Bounds.{one_added, none_added}
use Rattle.net_questions.proofs.linting.add_if_so.Goals as goal

pub returns-then-is_so : goal.returns-then-is_so
returns-then-is_so c = one_added c.args.plan.now c.args.finding c.args.findings.now.items _ (c.is_so.ensures.0 c.if-is_so.true) c.in_ok-push.ensures.items

pub returns : goal.returns
returns c = none_added c.args.plan.now c.args.finding c.args.findings.now.items (λ so. cc (c.is_so.ensures.1 so, c.if-is_so.false))
