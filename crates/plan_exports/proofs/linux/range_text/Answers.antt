use Rattle.plan_exports.proofs.Ranges.{several}
use Rattle.plan_exports.proofs.linux.range_text.Goals as goal

pub returns-then-size-eq1 : goal.returns-then-size-eq1
returns-then-size-eq1 c = rw c.if-size-eq1.true c.number_text.ensures

pub returns-else-size-eq1 : goal.returns-else-size-eq1
returns-else-size-eq1 c = rw (several c.args.first.value c.args.size c.if-size-eq1.false) c.span_text.ensures
