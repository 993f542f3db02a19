use Rattle.std.proofs.Common.{refl, arith, below_more}
use Rattle.net_questions.proofs.Within.{has_row_within}
use Rattle.net_questions.proofs.lints.rows.nobody_has_row.Goals as goal

pub returns-then-has_row : goal.returns-then-has_row
returns-then-has_row c = (λ h. absurd (cc h), λ none. absurd (none c.loop-node.node (c.has_row.ensures.0 c.if-has_row.true)))

pub loop-node-preserved : goal.loop-node-preserved
loop-node-preserved c = below_more _ _ c.loop-node.invariant (λ has. cc (c.has_row.ensures.1 has, c.if-has_row.false))

pub returns : goal.returns
returns c = (
  λ _. λ m has. (let lt = has_row_within c.args.plan.now m c.args.eid.value has in c.loop-node.invariant m (omega (arith, lt)) has),
  λ _. refl,
)
