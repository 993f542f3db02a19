use Rattle.std.proofs.Common.{refl, arith, below_more}
use Rattle.net_questions.proofs.Within.{port_within}
use Rattle.net_questions.proofs.lints.ports.is_alone.Goals as goal

pub returns-then-has_other_on : goal.returns-then-has_other_on
returns-then-has_other_on c = (λ h. absurd (cc h), λ alone. absurd (alone c.loop-other.other (c.has_other_on.ensures.0 c.if-has_other_on.true)))

pub loop-other-preserved : goal.loop-other-preserved
loop-other-preserved c = below_more _ _ c.loop-other.invariant (λ has. cc (c.has_other_on.ensures.1 has, c.if-has_other_on.false))

pub returns : goal.returns
returns c = (
  λ _. λ m has. (let lt = port_within c.args.plan.now m has.0 has.1 has.2 in c.loop-other.invariant m (omega (arith, lt)) has),
  λ _. refl,
)
