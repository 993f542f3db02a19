use Rattle.std.proofs.Common.{refl, arith, below_more}
use Rattle.net_questions.proofs.Within.{port_within}
use Rattle.net_questions.proofs.lints.buses.has_no_ports.Goals as goal

pub returns-then-has_port_on : goal.returns-then-has_port_on
returns-then-has_port_on c = (λ h. absurd (cc h), λ none. absurd (none c.loop-node.node (c.has_port_on.ensures.0 c.if-has_port_on.true)))

pub loop-node-preserved : goal.loop-node-preserved
loop-node-preserved c = below_more _ _ c.loop-node.invariant (λ has. cc (c.has_port_on.ensures.1 has, c.if-has_port_on.false))

pub returns : goal.returns
returns c = (
  λ _. λ n has. (let lt = port_within c.args.plan.now n has.0 has.1 has.2 in c.loop-node.invariant n (omega (arith, lt)) has),
  λ _. refl,
)
